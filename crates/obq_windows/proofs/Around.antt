-- The frames of a window around a part of it: from what stands next in the part to what stands next in the whole.
use Rattle.std.specs.Prelude.{Bool, List, T, [], false, nat_lt, refl, suc, true, zero, ℕ, ◌++◌, ◌∷◌, ◌≡◌, ◌≤◌}
use Rattle.std.proofs.Common.{ap, arith, subst, sym, ◌∙◌}
use Rattle.std.proofs.lemmas.List.{append-nil}
use Rattle.obq_base.specs.Tree.{ALink, ASuffix, AliasOf, ApplySuffix, ExprTree, ExprTrees, FieldTree, IndexSuffix, InvokeSuffix, LinkTrees, MethodOf, NoLinks, NoSuffixes, SelectSuffix, SuffixTree, SuffixTrees, ValueOf}
use Rattle.obq_base.specs.declared.trees.Operator.{Operator}
use Rattle.obq_model.specs.Frames.{AreFrames, IsFrame, LetPass, is_stop}
use Rattle.obq_model.specs.Opened.{open_chain, open_expr, open_field, open_suffix, open_suffixes}
use Rattle.obq_model.specs.Opening.{layout_of, linked}
use Rattle.obq_model.specs.Reading.{read}
use Rattle.obq_model.specs.Step.{Found, Frame, Needs, Next, Pending, Self, activations_at, fill, find, is_operand, plug, self_at}
use Rattle.obq_model.specs.Terms.{Assign, Bytes, Called, Choosing, Counting, EachIn, End, Finally, Finishing, For, Foreach, Form, If, Kind, Let, Looping, Part, Parts, Raise, SetMethod, Term, Testing, Then, Try, Var, Watch, Within}
use Rattle.obq_model.proofs.Plug.{frames_append, needs_plug, plug_append, step_plug}
use Rattle.obq_windows.specs.Meanings.{Means, Moves}
use Rattle.obq_windows.specs.Moves.{with_links, with_suffixes}
use Rattle.obq_windows.specs.Places.{Place, env_at, outside_at, writer_at}
use Rattle.obq_windows.specs.Trees.{Asks, Callee, PendingArguments, PendingAssign, PendingCalled, PendingChain, PendingCount, PendingEach, PendingField, PendingFirst, PendingForeach, PendingForm, PendingGuard, PendingHead, PendingIf, PendingKept, PendingLast, PendingLet, PendingLoop, PendingObject, PendingRaise, PendingRight, PendingTesting, PendingThen, PendingTo, PendingTry, PendingVar, PendingWatch, PendingWithin, PlainOperation, Silent, Stepped, Tag, ToArray, ToBuiltin, ToCall, ToClone, ToIndex, ToInvoke, ToRedirect, ToSetAlias, ToSetIndex, ToSetValue, TreeAct, TreeAfter, TreeFocus, TreeFrame, TreeMoved, callee_frame, expr_at, exprs_at, field_frame, fields_at, focus_term, frames_of, link_frame, linked_kind, links_around, names_at, pending_frames, push, read_operation, scope_after, suffix_frame, suffixes_around, term_of, tree_moved}
use Rattle.obq_windows.specs.Values.{PlainValue, Table}
use Rattle.obq_windows.proofs.Layouts.{literal_frame}

-- a frame whose hole is its first part
first_hole : {R : Type 0} → (k : Kind R) (after : Parts R) → is_operand k 0 ≡ true → IsFrame (Pending k [] after)
first_hole k after e = λ i l. subst (λ n. is_operand k n ≡ true) (zero_only i l) e where
  zero_only : (i : ℕ) → i ≤ 0 → 0 ≡ i
  zero_only i l = omega (arith, l)

linked_operand : (R : Type 0) (op : Operator) → is_operand (linked_kind {R = R} op) 0 ≡ true
linked_operand R Operator.Orif = refl
linked_operand R Operator.Andif = refl
linked_operand R op = refl

suffix_is_frame : {R : Type 0} → (T : Table R) (p : Place R) (s : SuffixTree) → IsFrame (suffix_frame T p s)
suffix_is_frame T p (ApplySuffix es place) = λ i l. refl
suffix_is_frame T p (SelectSuffix x place) = λ i l. refl
suffix_is_frame T p (InvokeSuffix x es place) = λ i l. refl
suffix_is_frame T p (IndexSuffix e place) = λ i l. refl

links_are_frames : {R : Type 0} → (T : Table R) (p : Place R) (links : LinkTrees) → AreFrames (links_around T p links)
links_are_frames T p NoLinks = tt
links_are_frames T p (ALink op e place links) = frames_append (links_around T p links) (link_frame T p op e ∷ []) (links_are_frames T p links) (first_hole (linked_kind op) (Part (expr_at T p e) End) (linked_operand _ op), tt)

suffixes_are_frames : {R : Type 0} → (T : Table R) (p : Place R) (ss : SuffixTrees) → AreFrames (suffixes_around T p ss)
suffixes_are_frames T p NoSuffixes = tt
suffixes_are_frames T p (ASuffix s ss) = frames_append (suffixes_around T p ss) (suffix_frame T p s ∷ []) (suffixes_are_frames T p ss) (suffix_is_frame T p s, tt)

callee_is_frame : {R : Type 0} → (T : Table R) (callee : Callee R) (done : List (PlainValue R)) (after : Parts R) → IsFrame (callee_frame T callee done after)
callee_is_frame T (ToCall f) done after = λ i l. refl
callee_is_frame T (ToBuiltin row) done after = λ i l. refl
callee_is_frame T ToArray done after = λ i l. refl
callee_is_frame T ToIndex done after = λ i l. refl
callee_is_frame T ToClone done after = λ i l. refl
callee_is_frame T ToSetIndex done after = λ i l. refl
callee_is_frame T (ToSetValue x) done after = λ i l. refl
callee_is_frame T (ToSetAlias x y) done after = λ i l. refl
callee_is_frame T ToRedirect done after = λ i l. refl
callee_is_frame T (ToInvoke x) done after = λ i l. refl

below_two : (i : ℕ) → i ≤ 1 → nat_lt i 2 ≡ true
below_two zero l = refl
below_two (suc zero) l = refl
below_two (suc (suc i)) l = absurd (none i l) where
  none : (k : ℕ) → suc (suc k) ≤ 1 → ⊥
  none k e = omega (arith, e)

field_is_frame : {R : Type 0} → (T : Table R) (p : Place R) (x : Bytes) (body : FieldTree) → IsFrame (field_frame T p x body)
field_is_frame T p x (ValueOf e) = λ i l. refl
field_is_frame {R} T p x (MethodOf q) = first_hole {R = R} (SetMethod x) End refl
field_is_frame T p x (AliasOf y e place) = λ i l. refl

pub pend_are_frames : {R : Type 0} → (T : Table R) (p : Place R) (pending : PendingForm R) → AreFrames (pending_frames T p pending)
pend_are_frames {R} T p (PendingThen is) = (first_hole {R = R} Then End refl, tt)
pend_are_frames {R} T p (PendingLet x bs is) = (first_hole {R = R} Let End refl, tt)
pend_are_frames T p (PendingObject flags done x other fields) = (literal_frame T done flags x other (layout_of fields) (fields_at T p done fields), tt)
pend_are_frames {R} T p (PendingVar x bs is) = (first_hole {R = R} Var End refl, tt)
pend_are_frames {R} T p (PendingIf b arms last) = (first_hole {R = R} If End refl, tt)
pend_are_frames T p (PendingChain op e links) = frames_append _ _ (links_are_frames T p links) (first_hole (linked_kind op) (Part (expr_at T p e) End) (linked_operand _ op), tt)
pend_are_frames T p (PendingRight v op) = (λ i l. refl, tt)
pend_are_frames T p (PendingHead s ss) = frames_append _ _ (suffixes_are_frames T p ss) (suffix_is_frame T p s, tt)
pend_are_frames T p (PendingArguments callee done es) = (callee_is_frame T callee done (exprs_at T p es), tt)
pend_are_frames {R} T p PendingRaise = (first_hole {R = R} Raise End refl, tt)
pend_are_frames {R} T p (PendingWatch e) = (first_hole {R = R} Watch End refl, tt)
pend_are_frames {R} T p (PendingTesting o c e) = (first_hole {R = R} (Testing o c) End refl, tt)
pend_are_frames {R} T p PendingCalled = (first_hole {R = R} Called End refl, tt)
pend_are_frames {R} T p (PendingWithin o m) = (first_hole {R = R} (Within o m) End refl, tt)
pend_are_frames {R} T p (PendingTry arms last) = (first_hole {R = R} Try End refl, tt)
pend_are_frames {R} T p (PendingGuard e b arms last) = (first_hole {R = R} (Choosing e) End refl, tt)
pend_are_frames {R} T p (PendingLast b) = (first_hole {R = R} Finally End refl, tt)
pend_are_frames {R} T p (PendingKept k) = (first_hole {R = R} Finishing End refl, tt)
pend_are_frames {R} T p (PendingAssign x) = (first_hole {R = R} Assign End refl, tt)
pend_are_frames {R} T p (PendingField x body) = (field_is_frame T p x body, tt)
pend_are_frames {R} T p (PendingLoop b) = (first_hole {R = R} Looping End refl, tt)
pend_are_frames {R} T p (PendingFirst x e b) = (first_hole {R = R} For End refl, tt)
pend_are_frames T p (PendingTo first x b) = (λ i l. below_two i l, tt)
pend_are_frames {R} T p (PendingCount i n x b) = (first_hole {R = R} (Counting i n) End refl, tt)
pend_are_frames {R} T p (PendingForeach x b) = (first_hole {R = R} Foreach End refl, tt)
pend_are_frames {R} T p (PendingEach r i n x b) = (first_hole {R = R} (EachIn r i n) End refl, tt)

pub are_frames : {R : Type 0} → (T : Table R) (fs : List (TreeFrame R)) → AreFrames (frames_of T fs)
are_frames T [] = tt
are_frames T (f ∷ fs) = frames_append (frames_of T fs) (pending_frames T f.place f.pending) (are_frames T fs) (pend_are_frames T f.place f.pending)

-- ---- from a part to the whole

-- a frame more, or frames more, around the focus
pub record Leads {R : Type 0} (T : Table R) (fs : List (TreeFrame R)) (t : Term R) (more : List (TreeFrame R)) (focus : TreeFocus R) : Type 0 where
  pub frames : List (Frame R)
  pub around : frames_of T more ≡ frames_of T fs ++ frames
  pub term : t ≡ plug frames (focus_term T focus)

pub record Starts {R : Type 0} (T : Table R) (fs : List (TreeFrame R)) (t : Term R) (tag : Tag R) (m : TreeMoved R) : Type 0 where
  pub tag_is : m.tag ≡ tag
  pub leads : Leads T fs t m.frames m.focus

pub whole : {R : Type 0} → (T : Table R) (fs : List (TreeFrame R)) (t : Term R) (more : List (TreeFrame R)) (focus : TreeFocus R) → Leads T fs t more focus → plug (frames_of T fs) t ≡ term_of T more focus
whole T fs t more focus l =
    ap (plug (frames_of T fs)) l.term ∙ sym (plug_append (frames_of T fs) l.frames (focus_term T focus)) ∙ ap (λ gs. plug gs (focus_term T focus)) (sym l.around)

pub silent : {R : Type 0} → (eq : R → R → Bool) (T : Table R) (a : ℕ) (s : Self R) (fs : List (TreeFrame R)) (t : Term R) (m : TreeMoved R) → Starts T fs t Silent m → Moves eq T a s (plug (frames_of T fs) t) m
silent {R} eq T a s fs t m l =
    subst (λ (tag : Tag R). Means eq T a s (plug (frames_of T fs) t) tag m.frames m.focus) (sym l.tag_is) (ap (find eq a s) (whole T fs t m.frames m.focus l.leads))

-- what the hole of the frames finds
abbrev pub found_in : {R : Type 0} → (R → R → Bool) → Table R → ℕ → Self R → List (TreeFrame R) → Term R → Found R
found_in eq T a s fs t = find eq (activations_at a (frames_of T fs)) (self_at s (frames_of T fs)) t

pub stepped : {R : Type 0} → (eq : R → R → Bool) (T : Table R) (a : ℕ) (s : Self R) (fs : List (TreeFrame R)) (t u : Term R) (m : TreeMoved R) → found_in eq T a s fs t ≡ Next u → Starts T fs u Stepped m → Moves eq T a s (plug (frames_of T fs) t) m
stepped {R} eq T a s fs t u m h l =
    subst (λ (tag : Tag R). Means eq T a s (plug (frames_of T fs) t) tag m.frames m.focus) (sym l.tag_is)
    (step_plug eq a s (frames_of T fs) t u (are_frames T fs) h ∙ ap Next (whole T fs u m.frames m.focus l.leads))

pub here : {R : Type 0} → (T : Table R) (fs : List (TreeFrame R)) (focus : TreeFocus R) (t : Term R) → t ≡ focus_term T focus → Leads T fs t fs focus
here T fs focus t e = record { frames = []; around = sym (append-nil (frames_of T fs)); term = e }

pub pushed : {R : Type 0} → (T : Table R) (fs : List (TreeFrame R)) (p : Place R) (pending : PendingForm R) (focus : TreeFocus R) (t : Term R) → t ≡ plug (pending_frames T p pending) (focus_term T focus) → Leads T fs t (push p pending fs) focus
pushed T fs p pending focus t e = record { frames = pending_frames T p pending; around = refl; term = e }

pub to_here : {R : Type 0} → (eq : R → R → Bool) (T : Table R) (a : ℕ) (s : Self R) (fs : List (TreeFrame R)) (t : Term R) (focus : TreeFocus R) → found_in eq T a s fs t ≡ Next (focus_term T focus) → Moves eq T a s (plug (frames_of T fs) t) (tree_moved Stepped fs focus)
to_here eq T a s fs t focus h = step_plug eq a s (frames_of T fs) t (focus_term T focus) (are_frames T fs) h

pub to_pushed : {R : Type 0} → (eq : R → R → Bool) (T : Table R) (a : ℕ) (s : Self R) (fs : List (TreeFrame R)) (t : Term R) (p : Place R) (pending : PendingForm R) (focus : TreeFocus R) → found_in eq T a s fs t ≡ Next (plug (pending_frames T p pending) (focus_term T focus)) → Moves eq T a s (plug (frames_of T fs) t) (tree_moved Stepped (push p pending fs) focus)
to_pushed eq T a s fs t p pending focus h = stepped eq T a s fs t _ (tree_moved Stepped (push p pending fs) focus) h (record { tag_is = refl; leads = pushed T fs p pending focus _ refl })

pub asks : {R : Type 0} → (eq : R → R → Bool) (T : Table R) (a : ℕ) (s : Self R) (fs : List (TreeFrame R)) (t : Term R) (op : PlainOperation R) (after : TreeAfter R) → found_in eq T a s fs t ≡ Needs (read_operation T op (scope_after T after)) [] → Moves eq T a s (plug (frames_of T fs) t) (tree_moved (Asks op) fs (TreeAct op after))
asks eq T a s fs t op after h = (after, refl, needs_plug eq a s (frames_of T fs) t (read_operation T op (scope_after T after)) [] (are_frames T fs) h ∙ ap (Needs (read_operation T op (scope_after T after))) (append-nil (frames_of T fs)))

-- ---- chains

linked_read : {R : Type 0} → (T : Table R) (p : Place R) (op : Operator) (t u : Term R) → read (env_at T p) (linked op t u) ≡ Form (linked_kind op) (Part (read (env_at T p) t) (Part (read (env_at T p) u) End))
linked_read T p Operator.Orif t u = refl
linked_read T p Operator.Andif t u = refl
linked_read T p op t u = refl

pub chain_read : {R : Type 0} → (T : Table R) (p : Place R) (links : LinkTrees) (t : Term R) → read (env_at T p) (open_chain (writer_at T p) (outside_at T p) (names_at p) t links) ≡ plug (links_around T p links) (read (env_at T p) t)
chain_read T p NoLinks t = refl
chain_read T p (ALink op e place links) t =
    chain_read T p links (linked op t (open_expr (writer_at T p) (outside_at T p) (names_at p) e))
    ∙ ap (plug (links_around T p links)) (linked_read T p op t (open_expr (writer_at T p) (outside_at T p) (names_at p) e))
    ∙ sym (plug_append (links_around T p links) (link_frame T p op e ∷ []) (read (env_at T p) t))

suffix_read : {R : Type 0} → (T : Table R) (p : Place R) (s : SuffixTree) (t : Term R) → read (env_at T p) (open_suffix (writer_at T p) (outside_at T p) (names_at p) t s) ≡ fill (suffix_frame T p s) (read (env_at T p) t)
suffix_read T p (ApplySuffix es place) t = refl
suffix_read T p (SelectSuffix x place) t = refl
suffix_read T p (InvokeSuffix x es place) t = refl
suffix_read T p (IndexSuffix e place) t = refl

pub suffixes_read : {R : Type 0} → (T : Table R) (p : Place R) (ss : SuffixTrees) (t : Term R) → read (env_at T p) (open_suffixes (writer_at T p) (outside_at T p) (names_at p) t ss) ≡ plug (suffixes_around T p ss) (read (env_at T p) t)
suffixes_read T p NoSuffixes t = refl
suffixes_read T p (ASuffix s ss) t =
    suffixes_read T p ss (open_suffix (writer_at T p) (outside_at T p) (names_at p) t s)
    ∙ ap (plug (suffixes_around T p ss)) (suffix_read T p s t)
    ∙ sym (plug_append (suffixes_around T p ss) (suffix_frame T p s ∷ []) (read (env_at T p) t))

pub links_frames : {R : Type 0} → (T : Table R) (p : Place R) (links : LinkTrees) (fs : List (TreeFrame R)) → frames_of T (with_links p links fs) ≡ frames_of T fs ++ links_around T p links
links_frames T p NoLinks fs = sym (append-nil (frames_of T fs))
links_frames T p (ALink op e place links) fs = refl

pub suffixes_frames : {R : Type 0} → (T : Table R) (p : Place R) (ss : SuffixTrees) (fs : List (TreeFrame R)) → frames_of T (with_suffixes p ss fs) ≡ frames_of T fs ++ suffixes_around T p ss
suffixes_frames T p NoSuffixes fs = sym (append-nil (frames_of T fs))
suffixes_frames T p (ASuffix s ss) fs = refl

-- ---- a raising passes

letpass_append : {R : Type 0} → (fs gs : List (Frame R)) → LetPass fs → LetPass gs → LetPass (fs ++ gs)
letpass_append [] gs w v = v
letpass_append (Pending k before after ∷ fs) gs w v = (w.0, letpass_append fs gs w.1 v)

linked_passes : (R : Type 0) (op : Operator) → is_stop (linked_kind {R = R} op) ≡ false
linked_passes R Operator.Orif = refl
linked_passes R Operator.Andif = refl
linked_passes R op = refl

pub links_pass : {R : Type 0} → (T : Table R) (p : Place R) (links : LinkTrees) → LetPass (links_around T p links)
links_pass T p NoLinks = tt
links_pass T p (ALink op e place links) = letpass_append (links_around T p links) (link_frame T p op e ∷ []) (links_pass T p links) (linked_passes _ op, tt)

pub suffix_passes : {R : Type 0} → (T : Table R) (p : Place R) (s : SuffixTree) → LetPass (suffix_frame T p s ∷ [])
suffix_passes T p (ApplySuffix es place) = (refl, tt)
suffix_passes T p (SelectSuffix x place) = (refl, tt)
suffix_passes T p (InvokeSuffix x es place) = (refl, tt)
suffix_passes T p (IndexSuffix e place) = (refl, tt)

pub suffixes_pass : {R : Type 0} → (T : Table R) (p : Place R) (ss : SuffixTrees) → LetPass (suffixes_around T p ss)
suffixes_pass T p NoSuffixes = tt
suffixes_pass T p (ASuffix s ss) = letpass_append (suffixes_around T p ss) (suffix_frame T p s ∷ []) (suffixes_pass T p ss) (suffix_passes T p s)

callee_passes : {R : Type 0} → (T : Table R) (callee : Callee R) (done : List (PlainValue R)) (after : Parts R) → LetPass (callee_frame T callee done after ∷ [])
callee_passes T (ToCall f) done after = (refl, tt)
callee_passes T (ToBuiltin row) done after = (refl, tt)
callee_passes T ToArray done after = (refl, tt)
callee_passes T ToIndex done after = (refl, tt)
callee_passes T ToClone done after = (refl, tt)
callee_passes T ToSetIndex done after = (refl, tt)
callee_passes T (ToSetValue x) done after = (refl, tt)
callee_passes T (ToSetAlias x y) done after = (refl, tt)
callee_passes T ToRedirect done after = (refl, tt)
callee_passes T (ToInvoke x) done after = (refl, tt)

pub chain_passes : {R : Type 0} → (T : Table R) (p : Place R) (op : Operator) (e : ExprTree) (links : LinkTrees) → LetPass (pending_frames T p (PendingChain op e links))
chain_passes T p op e links = letpass_append (links_around T p links) (link_frame T p op e ∷ []) (links_pass T p links) (linked_passes _ op, tt)

pub head_passes : {R : Type 0} → (T : Table R) (p : Place R) (s : SuffixTree) (ss : SuffixTrees) → LetPass (pending_frames T p (PendingHead s ss))
head_passes T p s ss = letpass_append (suffixes_around T p ss) _ (suffixes_pass T p ss) (suffix_passes T p s)

pub args_pass : {R : Type 0} → (T : Table R) (p : Place R) (callee : Callee R) (done : List (PlainValue R)) (es : ExprTrees) → LetPass (pending_frames T p (PendingArguments callee done es))
args_pass T p callee done es = callee_passes T callee done (exprs_at T p es)

pub field_passes : {R : Type 0} → (T : Table R) (p : Place R) (x : Bytes) (body : FieldTree) → LetPass (field_frame T p x body ∷ [])
field_passes T p x (ValueOf e) = (refl, tt)
field_passes T p x (MethodOf q) = (refl, tt)
field_passes T p x (AliasOf y e place) = (refl, tt)

pub field_read : {R : Type 0} → (T : Table R) (p : Place R) (x : Bytes) (body : FieldTree) (t : Term R) → read (env_at T p) (open_field (writer_at T p) (outside_at T p) (names_at p) x t body) ≡ fill (field_frame T p x body) (read (env_at T p) t)
field_read T p x (ValueOf e) t = refl
field_read T p x (MethodOf q) t = refl
field_read T p x (AliasOf y e place) t = refl
