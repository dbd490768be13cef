-- A value in the innermost frame.
use Rattle.std.specs.Prelude.{Bool, List, None, Option, Some, [], bytes_eq, codes, false, if◌then◌else◌, int_lt, pos, refl, suc, true, ℕ, ℤ, ◌++◌, ◌+ℤ◌, ◌∷◌, ◌≡◌}
use Rattle.std.proofs.Common.{ap, arith, subst, sym, ◌∙◌}
use Rattle.std.proofs.lemmas.Int.{ints}
use Rattle.std.proofs.lemmas.List.{append_assoc}
use Rattle.obq_base.specs.Tree.{ABlock, AliasOf, AnArm, AnExpr, ApplySuffix, ArmTrees, BindTrees, BlockTree, ExprTree, FieldTree, IndexSuffix, InvokeSuffix, ItemTrees, LinkTrees, MaybeBlock, MethodOf, NoArms, NoBlock, NoExprs, SelectSuffix, SuffixTree, SuffixTrees, ValueOf}
use Rattle.obq_base.specs.declared.trees.Operator.{Operator}
use Rattle.obq_model.specs.Exceptions.{wrong_type}
use Rattle.obq_model.specs.Opened.{builtin_at, open_binds, open_block, open_items}
use Rattle.obq_model.specs.Put.{enter}
use Rattle.obq_model.specs.Reading.{Env, hide, read}
use Rattle.obq_model.specs.Step.{Frame, Next, Self, activations_at, choose, counting, fill, find, find_part, plug, self_at, values_before, watching}
use Rattle.obq_model.specs.Terms.{AndIf, Apply, Array, Bytes, Call, Choosing, Clone, Condition, Const, Counting, End, Engine, Exc, For, Foreach, Form, Held, If, Index, Inner, Int, Invoke, Kind, Let, Loc, MakeArray, Mode, Object, Okay, OrIf, Part, Parts, Plain, Raise, Redirect, Select, SetAlias, SetIndex, SetValue, Term, Testing, Truth, Try, Under, Value, Var, Variable, Watch, Within, Writer}
use Rattle.obq_model.proofs.Plug.{plug_append}
use Rattle.obq_model.proofs.PutRead.{put_read}
use Rattle.obq_windows.specs.Literals.{done_with}
use Rattle.obq_windows.specs.Meanings.{Moves}
use Rattle.obq_windows.specs.Moves.{begin_args, begin_arms, begin_binds, begin_count, begin_fields, begin_if, begin_rest, begin_watch, count_activations, count_at, give_and, give_field, give_foreach, give_guard, give_if, give_left, give_or, give_pending, give_raise, give_suffix, give_testing, give_to, give_watch, going_on, leave_tree, next_count, target_value, tree_result, tree_self, with_links, with_suffixes}
use Rattle.obq_windows.specs.Places.{Place, bind_of, env_at, outside_at, with_bound, writer_at}
use Rattle.obq_windows.specs.Results.{assigned, operated}
use Rattle.obq_windows.specs.Trees.{Asks, BlockTask, Callee, ExprTask, Kept, KeptRaising, KeptValue, PendingArguments, PendingAssign, PendingCalled, PendingChain, PendingCount, PendingEach, PendingField, PendingFirst, PendingForeach, PendingForm, PendingGuard, PendingHead, PendingIf, PendingKept, PendingLast, PendingLet, PendingLoop, PendingObject, PendingRaise, PendingRight, PendingTesting, PendingThen, PendingTo, PendingTry, PendingVar, PendingWatch, PendingWithin, PlainEachItem, PlainEachSize, PlainGet, PlainLeave, PlainLineUp, PlainNewVariable, Silent, Stepped, ToArray, ToBuiltin, ToCall, ToClone, ToIndex, ToInvoke, ToRedirect, ToSetAlias, ToSetIndex, ToSetValue, TreeAct, TreeFrame, TreeHere, TreeMethod, TreeRaising, TreeRun, TreeScope, TreeTest, TreeUnder, TreeUnmet, TreeValue, arms_at, block_at, callee_frame, expr_at, exprs_at, field_frame, frames_of, if_at, kept_term, let_at, link_frame, linked_kind, links_around, names_at, pending_frames, push, scope_at, suffix_frame, suffixes_around, tree_moved, tree_raises, vars_at}
use Rattle.obq_windows.specs.Values.{ClosureValue, ExceptionValue, IntValue, IsMadeTable, LocationValue, OkayValue, PlainValue, Table, TextValue, ThreadValue, TruthValue, proc_of, read_all, read_value, read_values}
use Rattle.obq_windows.proofs.Around.{asks, found_in, here, links_frames, pushed, silent, stepped, suffixes_frames, to_here, to_pushed}
use Rattle.obq_windows.proofs.Begins.{args_right, callee_form, of_term, result_right, suffix_args}
use Rattle.obq_windows.proofs.Closing.{rest_starts}
use Rattle.obq_windows.proofs.Envs.{bound_more, names_more}
use Rattle.obq_windows.proofs.Literals.{operand_given}
use Rattle.obq_windows.proofs.Operators.{operated_is}
use Rattle.obq_windows.proofs.Results.{closure_cases}
use Rattle.obq_windows.proofs.Selves.{selfed}
use Rattle.obq_windows.proofs.Starting.{binds_at, binds_start, if_starts, vars_from}
use Rattle.obq_windows.proofs.Updates.{target_is}

-- the window with this frame is the frame's form around the value, inside of the others
one_frame : {R : Type 0} → (T : Table R) (fs : List (TreeFrame R)) (gs : List (Frame R)) (t : Term R) → plug (frames_of T fs ++ gs) t ≡ plug (frames_of T fs) (plug gs t)
one_frame T fs gs t = plug_append (frames_of T fs) gs t

-- where further operators or suffixes lie around
behind : {R : Type 0} → (T : Table R) (fs more : List (TreeFrame R)) (gs : List (Frame R)) (f : Frame R) (t : Term R) → frames_of T more ≡ frames_of T fs ++ gs → plug (frames_of T fs ++ (gs ++ f ∷ [])) t ≡ plug (frames_of T more) (fill f t)
behind T fs more gs f t e =
    ap (λ l. plug l t) (sym (append_assoc (frames_of T fs) gs (f ∷ []))) ∙ plug_append (frames_of T fs ++ gs) (f ∷ []) t ∙ ap (λ l. plug l (fill f t)) (sym e)

binds_given : {R : Type 0} → (k : Kind R) (T : Table R) (p : Place R) (x : Bytes) (v : PlainValue R) (bs : BindTrees) (is : ItemTrees)
    → enter (read_value T v ∷ []) (read (env_at T p) (Under (x ∷ []) (open_binds k (writer_at T p) (outside_at T p) (names_at p ++ x ∷ []) bs (λ ns. open_items (writer_at T p) (outside_at T p) ns is))))
    ≡ read (env_at T (with_bound p (bind_of x v ∷ []))) (open_binds k (writer_at T p) (outside_at T p) (names_at (with_bound p (bind_of x v ∷ []))) bs (λ ns. open_items (writer_at T p) (outside_at T p) ns is))
binds_given {R} k T p x v bs is =
    put_read (open_binds k (writer_at T p) (outside_at T p) (names_at p ++ x ∷ []) bs (λ ns. open_items (writer_at T p) (outside_at T p) ns is)) (hide (x ∷ []) (env_at T p)) (read_value T v) x
    ∙ ap (λ (env : Env R). read env (open_binds k (writer_at T p) (outside_at T p) (names_at p ++ x ∷ []) bs (λ ns. open_items (writer_at T p) (outside_at T p) ns is))) (bound_more T p x v)
    ∙ ap (λ (names : List Bytes). read (env_at T (with_bound p (bind_of x v ∷ []))) (open_binds k (writer_at T p) (outside_at T p) names bs (λ ns. open_items (writer_at T p) (outside_at T p) ns is))) (sym (names_more p.bound x v))

let_given : {R : Type 0} → (T : Table R) (p : Place R) (x : Bytes) (v : PlainValue R) (bs : BindTrees) (is : ItemTrees) → enter (read_value T v ∷ []) (let_at T p x bs is) ≡ binds_at T (with_bound p (bind_of x v ∷ [])) bs is
let_given T p x v bs is = binds_given Let T p x v bs is

pub var_given : {R : Type 0} → (T : Table R) (p : Place R) (x : Bytes) (v : PlainValue R) (bs : BindTrees) (is : ItemTrees) → enter (read_value T v ∷ []) (vars_at T p x bs is) ≡ vars_from T (with_bound p (bind_of x v ∷ [])) bs is
var_given T p x v bs is = binds_given Var T p x v bs is

raise_given : {R : Type 0} → (eq : R → R → Bool) (T : Table R) (a : ℕ) (s : Self R) (v : PlainValue R) (fs : List (TreeFrame R)) → Moves eq T a s (plug (frames_of T fs) (Form Raise (Part (Const (read_value T v)) End))) (give_raise v fs)
raise_given eq T a s (IntValue z) fs = to_here eq T a s fs _ (tree_raises (codes "type")) refl
raise_given eq T a s (TruthValue z) fs = to_here eq T a s fs _ (tree_raises (codes "type")) refl
raise_given eq T a s OkayValue fs = to_here eq T a s fs _ (tree_raises (codes "type")) refl
raise_given eq T a s (TextValue z) fs = to_here eq T a s fs _ (tree_raises (codes "type")) refl
raise_given eq T a s (ExceptionValue z) fs = to_here eq T a s fs _ (tree_raises z) refl
raise_given eq T a s (ThreadValue z) fs = to_here eq T a s fs _ (tree_raises (codes "type")) refl
raise_given eq T a s (ClosureValue t c group index cs) fs = to_here eq T a s fs _ (tree_raises (codes "type")) (closure_cases T (read_values T cs) (proc_of T group index) (λ f. find eq (activations_at a (frames_of T fs)) (self_at s (frames_of T fs)) (Form Raise (Part (Const f) End)) ≡ Next (wrong_type)) (λ params body. refl) (λ names G i. refl))
raise_given eq T a s (LocationValue k z) fs = to_here eq T a s fs _ (tree_raises (codes "type")) refl

if_given : {R : Type 0} → (eq : R → R → Bool) (T : Table R) (a : ℕ) (s : Self R) (v : PlainValue R) (p : Place R) (b : BlockTree) (arms : ArmTrees) (last : MaybeBlock) (fs : List (TreeFrame R))
    → Moves eq T a s (plug (frames_of T fs) (Form If (Part (Const (read_value T v)) (Part (block_at T p b) (Part (if_at T p arms last) End))))) (give_if v p b arms last fs)
if_given eq T a s (IntValue z) p b arms last fs = to_here eq T a s fs _ (tree_raises (codes "type")) refl
if_given eq T a s (TruthValue true) p b arms last fs = to_here eq T a s fs _ (TreeRun p (BlockTask b)) refl
if_given eq T a s (TruthValue false) p b arms last fs = stepped eq T a s fs _ _ (begin_if Stepped p arms last fs) refl (if_starts T fs Stepped p arms last)
if_given eq T a s OkayValue p b arms last fs = to_here eq T a s fs _ (tree_raises (codes "type")) refl
if_given eq T a s (TextValue z) p b arms last fs = to_here eq T a s fs _ (tree_raises (codes "type")) refl
if_given eq T a s (ExceptionValue z) p b arms last fs = to_here eq T a s fs _ (tree_raises (codes "type")) refl
if_given eq T a s (ThreadValue z) p b arms last fs = to_here eq T a s fs _ (tree_raises (codes "type")) refl
if_given eq T a s (ClosureValue t c group index cs) p b arms last fs = to_here eq T a s fs _ (tree_raises (codes "type")) (closure_cases T (read_values T cs) (proc_of T group index) (λ f. find eq (activations_at a (frames_of T fs)) (self_at s (frames_of T fs)) (Form If (Part (Const f) (Part (block_at T p b) (Part (if_at T p arms last) End)))) ≡ Next (wrong_type)) (λ params body. refl) (λ names G i. refl))
if_given eq T a s (LocationValue k z) p b arms last fs = to_here eq T a s fs _ (tree_raises (codes "type")) refl

-- an operator that becomes its right side, inside of further ones
of_links : {R : Type 0} → (T : Table R) (p : Place R) (e : ExprTree) (links : LinkTrees) (fs : List (TreeFrame R)) (t : Term R) (eq : R → R → Bool) (a : ℕ) (s : Self R) → found_in eq T a s (with_links p links fs) t ≡ Next (expr_at T p e)
    → Moves eq T a s (plug (frames_of T (with_links p links fs)) t) (going_on Stepped p links e fs)
of_links T p e links fs t eq a s h = to_here eq T a s (with_links p links fs) t (TreeRun p (ExprTask e)) h

or_given : {R : Type 0} → (eq : R → R → Bool) (T : Table R) (a : ℕ) (s : Self R) (v : PlainValue R) (p : Place R) (e : ExprTree) (links : LinkTrees) (fs : List (TreeFrame R))
    → Moves eq T a s (plug (frames_of T (with_links p links fs)) (Form OrIf (Part (Const (read_value T v)) (Part (expr_at T p e) End)))) (give_or v p e links fs)
or_given eq T a s (IntValue z) p e links fs = to_here eq T a s (with_links p links fs) _ (tree_raises (codes "type")) refl
or_given eq T a s (TruthValue true) p e links fs = to_here eq T a s (with_links p links fs) _ (TreeValue (TruthValue true)) refl
or_given eq T a s (TruthValue false) p e links fs =
    of_links T p e links fs (Form OrIf (Part (Const (Truth false)) (Part (expr_at T p e) End))) eq a s refl
or_given eq T a s OkayValue p e links fs = to_here eq T a s (with_links p links fs) _ (tree_raises (codes "type")) refl
or_given eq T a s (TextValue z) p e links fs = to_here eq T a s (with_links p links fs) _ (tree_raises (codes "type")) refl
or_given eq T a s (ExceptionValue z) p e links fs = to_here eq T a s (with_links p links fs) _ (tree_raises (codes "type")) refl
or_given eq T a s (ThreadValue z) p e links fs = to_here eq T a s (with_links p links fs) _ (tree_raises (codes "type")) refl
or_given eq T a s (ClosureValue t c group index cs) p e links fs = to_here eq T a s (with_links p links fs) _ (tree_raises (codes "type")) (closure_cases T (read_values T cs) (proc_of T group index) (λ f. find eq (activations_at a (frames_of T (with_links p links fs))) (self_at s (frames_of T (with_links p links fs))) (Form OrIf (Part (Const f) (Part (expr_at T p e) End))) ≡ Next (wrong_type)) (λ params body. refl) (λ names G i. refl))
or_given eq T a s (LocationValue k z) p e links fs = to_here eq T a s (with_links p links fs) _ (tree_raises (codes "type")) refl

and_given : {R : Type 0} → (eq : R → R → Bool) (T : Table R) (a : ℕ) (s : Self R) (v : PlainValue R) (p : Place R) (e : ExprTree) (links : LinkTrees) (fs : List (TreeFrame R))
    → Moves eq T a s (plug (frames_of T (with_links p links fs)) (Form AndIf (Part (Const (read_value T v)) (Part (expr_at T p e) End)))) (give_and v p e links fs)
and_given eq T a s (IntValue z) p e links fs = to_here eq T a s (with_links p links fs) _ (tree_raises (codes "type")) refl
and_given eq T a s (TruthValue true) p e links fs =
    of_links T p e links fs (Form AndIf (Part (Const (Truth true)) (Part (expr_at T p e) End))) eq a s refl
and_given eq T a s (TruthValue false) p e links fs = to_here eq T a s (with_links p links fs) _ (TreeValue (TruthValue false)) refl
and_given eq T a s OkayValue p e links fs = to_here eq T a s (with_links p links fs) _ (tree_raises (codes "type")) refl
and_given eq T a s (TextValue z) p e links fs = to_here eq T a s (with_links p links fs) _ (tree_raises (codes "type")) refl
and_given eq T a s (ExceptionValue z) p e links fs = to_here eq T a s (with_links p links fs) _ (tree_raises (codes "type")) refl
and_given eq T a s (ThreadValue z) p e links fs = to_here eq T a s (with_links p links fs) _ (tree_raises (codes "type")) refl
and_given eq T a s (ClosureValue t c group index cs) p e links fs = to_here eq T a s (with_links p links fs) _ (tree_raises (codes "type")) (closure_cases T (read_values T cs) (proc_of T group index) (λ f. find eq (activations_at a (frames_of T (with_links p links fs))) (self_at s (frames_of T (with_links p links fs))) (Form AndIf (Part (Const f) (Part (expr_at T p e) End))) ≡ Next (wrong_type)) (λ params body. refl) (λ names G i. refl))
and_given eq T a s (LocationValue k z) p e links fs = to_here eq T a s (with_links p links fs) _ (tree_raises (codes "type")) refl

left_given : {R : Type 0} → (eq : R → R → Bool) (T : Table R) (a : ℕ) (s : Self R) (v : PlainValue R) (p : Place R) (op : Operator) (e : ExprTree) (links : LinkTrees) (fs : List (TreeFrame R))
    → Moves eq T a s (plug (frames_of T (with_links p links fs)) (Form (linked_kind op) (Part (Const (read_value T v)) (Part (expr_at T p e) End)))) (give_left v p op e links fs)
left_given eq T a s v p Operator.Orif e links fs = or_given eq T a s v p e links fs
left_given eq T a s v p Operator.Andif e links fs = and_given eq T a s v p e links fs
left_given eq T a s v p op e links fs = silent eq T a s (with_links p links fs) _ (tree_moved Silent (push p (PendingRight v op) (with_links p links fs)) (TreeRun p (ExprTask e))) (record { tag_is = refl; leads = pushed T (with_links p links fs) p (PendingRight v op) (TreeRun p (ExprTask e)) _ refl })

select_given : {R : Type 0} → (eq : R → R → Bool) (T : Table R) (a : ℕ) (s : Self R) (v : PlainValue R) (p : Place R) (x : Bytes) (place : ℕ) (ss : SuffixTrees) (fs : List (TreeFrame R))
    → Moves eq T a s (plug (frames_of T (with_suffixes p ss fs)) (Form (Select x) (Part (Const (read_value T v)) End))) (give_suffix T (count_activations a fs) v p (SelectSuffix x place) ss fs)
select_given eq T a s (IntValue z) p x place ss fs = to_here eq T a s (with_suffixes p ss fs) _ (tree_raises (codes "type")) refl
select_given eq T a s (TruthValue z) p x place ss fs = to_here eq T a s (with_suffixes p ss fs) _ (tree_raises (codes "type")) refl
select_given eq T a s OkayValue p x place ss fs = to_here eq T a s (with_suffixes p ss fs) _ (tree_raises (codes "type")) refl
select_given eq T a s (TextValue z) p x place ss fs = to_here eq T a s (with_suffixes p ss fs) _ (tree_raises (codes "type")) refl
select_given eq T a s (ExceptionValue z) p x place ss fs = to_here eq T a s (with_suffixes p ss fs) _ (tree_raises (codes "type")) refl
select_given eq T a s (ThreadValue z) p x place ss fs = to_here eq T a s (with_suffixes p ss fs) _ (tree_raises (codes "type")) refl
select_given eq T a s (ClosureValue t c group index cs) p x place ss fs = to_here eq T a s (with_suffixes p ss fs) _ (tree_raises (codes "type")) (closure_cases T (read_values T cs) (proc_of T group index) (λ f. find eq (activations_at a (frames_of T (with_suffixes p ss fs))) (self_at s (frames_of T (with_suffixes p ss fs))) (Form (Select x) (Part (Const f) End)) ≡ Next (wrong_type)) (λ params body. refl) (λ names G i. refl))
select_given eq T a s (LocationValue Object o) p x place ss fs = asks eq T a s (with_suffixes p ss fs) _ (PlainGet o x) TreeHere refl
select_given eq T a s (LocationValue Array o) p x place ss fs = to_here eq T a s (with_suffixes p ss fs) _ (tree_raises (codes "type")) refl
select_given eq T a s (LocationValue Variable o) p x place ss fs = to_here eq T a s (with_suffixes p ss fs) _ (tree_raises (codes "type")) refl
select_given eq T a s (LocationValue Writer o) p x place ss fs = to_here eq T a s (with_suffixes p ss fs) _ (tree_raises (codes "type")) refl
select_given eq T a s (LocationValue Condition o) p x place ss fs = to_here eq T a s (with_suffixes p ss fs) _ (tree_raises (codes "type")) refl
select_given eq T a s (LocationValue Engine o) p x place ss fs = to_here eq T a s (with_suffixes p ss fs) _ (tree_raises (codes "type")) refl

suffix_given : {R : Type 0} → (eq : R → R → Bool) (T : Table R) (a : ℕ) (s : Self R) → IsMadeTable T → (v : PlainValue R) (p : Place R) (x : SuffixTree) (ss : SuffixTrees) (fs : List (TreeFrame R))
    → Moves eq T a s (plug (frames_of T (with_suffixes p ss fs)) (fill (suffix_frame T p x) (Const (read_value T v)))) (give_suffix T (count_activations a fs) v p x ss fs)
suffix_given eq T a s w v p (ApplySuffix es place) ss fs = suffix_args eq T a s w fs (ToCall v) p [] es ss
suffix_given eq T a s w v p (SelectSuffix x place) ss fs = select_given eq T a s v p x place ss fs
suffix_given eq T a s w v p (InvokeSuffix x es place) ss fs = suffix_args eq T a s w fs (ToInvoke x) p (v ∷ []) es ss
suffix_given eq T a s w v p (IndexSuffix e place) ss fs = suffix_args eq T a s w fs ToIndex p (v ∷ []) (AnExpr e NoExprs) ss

pub arms_start : {R : Type 0} → (eq : R → R → Bool) (T : Table R) (a : ℕ) (s : Self R) (fs : List (TreeFrame R)) (t : Term R) (p : Place R) (e : Bytes) (arms : ArmTrees) (last : MaybeBlock) → found_in eq T a s fs t ≡ Next (choose e (arms_at T p arms last))
    → Moves eq T a s (plug (frames_of T fs) t) (begin_arms p e arms last fs)
arms_start eq T a s fs t p e (AnArm g b arms) last h = to_pushed eq T a s fs t p (PendingGuard e b arms last) (TreeRun p (ExprTask g)) h
arms_start eq T a s fs t p e NoArms NoBlock h = to_here eq T a s fs t (TreeUnmet p e NoBlock) h
arms_start eq T a s fs t p e NoArms (ABlock b) h = to_here eq T a s fs t (TreeUnmet p e (ABlock b)) h

guard_given : {R : Type 0} → (eq : R → R → Bool) (T : Table R) (a : ℕ) (s : Self R) (v : PlainValue R) (p : Place R) (e : Bytes) (b : BlockTree) (arms : ArmTrees) (last : MaybeBlock) (fs : List (TreeFrame R))
    → Moves eq T a s (plug (frames_of T fs) (Form (Choosing e) (Part (Const (read_value T v)) (Part (block_at T p b) (arms_at T p arms last))))) (give_guard v p e b arms last fs)
guard_given eq T a s (IntValue z) p e b arms last fs = to_here eq T a s fs _ (tree_raises (codes "type")) refl
guard_given eq T a s (TruthValue z) p e b arms last fs = to_here eq T a s fs _ (tree_raises (codes "type")) refl
guard_given eq T a s OkayValue p e b arms last fs = to_here eq T a s fs _ (tree_raises (codes "type")) refl
guard_given eq T a s (TextValue z) p e b arms last fs = to_here eq T a s fs _ (tree_raises (codes "type")) refl
guard_given {R} eq T a s (ExceptionValue z) p e b arms last fs = at (bytes_eq e z) refl where
  at : (c : Bool) → bytes_eq e z ≡ c → Moves eq T a s (plug (frames_of T fs) (Form (Choosing e) (Part (Const (Exc z)) (Part (block_at T p b) (arms_at T p arms last))))) (if c then tree_moved Stepped fs (TreeRun p (BlockTask b)) else begin_arms p e arms last fs)
  at true q = to_here eq T a s fs _ (TreeRun p (BlockTask b)) (ap (λ (c : Bool). Next (if c then block_at T p b else choose e (arms_at T p arms last))) q)
  at false q = arms_start eq T a s fs _ p e arms last (ap (λ (c : Bool). Next (if c then block_at T p b else choose e (arms_at T p arms last))) q)
guard_given eq T a s (ThreadValue z) p e b arms last fs = to_here eq T a s fs _ (tree_raises (codes "type")) refl
guard_given eq T a s (ClosureValue t c group index cs) p e b arms last fs = to_here eq T a s fs _ (tree_raises (codes "type")) (closure_cases T (read_values T cs) (proc_of T group index) (λ f. find eq (activations_at a (frames_of T fs)) (self_at s (frames_of T fs)) (Form (Choosing e) (Part (Const f) (Part (block_at T p b) (arms_at T p arms last)))) ≡ Next (wrong_type)) (λ params body. refl) (λ names G i. refl))
guard_given eq T a s (LocationValue k z) p e b arms last fs = to_here eq T a s fs _ (tree_raises (codes "type")) refl

try_value : {R : Type 0} → (eq : R → R → Bool) (a : ℕ) (s : Self R) (v : Value R) (arms : Parts R) → find_part eq a s Try (v ∷ []) arms ≡ Next (Const v)
try_value eq a s v End = refl
try_value eq a s v (Part t ts) = refl

-- a `for` from a number on
pub block_entered : {R : Type 0} → (T : Table R) (p : Place R) (x : Bytes) (v : PlainValue R) (b : BlockTree) → enter (read_value T v ∷ []) (scope_at T p x b) ≡ block_at T (with_bound p (bind_of x v ∷ [])) b
block_entered {R} T p x v b =
    put_read (open_block (writer_at T p) (outside_at T p) (names_at p ++ x ∷ []) b) (hide (x ∷ []) (env_at T p)) (read_value T v) x
    ∙ ap (λ (env : Env R). read env (open_block (writer_at T p) (outside_at T p) (names_at p ++ x ∷ []) b)) (bound_more T p x v)
    ∙ ap (λ (names : List Bytes). read (env_at T (with_bound p (bind_of x v ∷ []))) (open_block (writer_at T p) (outside_at T p) names b)) (sym (names_more p.bound x v))

-- the block with this number
at_number : {R : Type 0} → (eq : R → R → Bool) (T : Table R) (a : ℕ) (s : Self R) (fs : List (TreeFrame R)) (t : Term R) (p : Place R) (i n : ℤ) (x : Bytes) (b : BlockTree) → found_in eq T a s fs t ≡ Next (counting i n (scope_at T p x b)) → int_lt n i ≡ false
    → Moves eq T a s (plug (frames_of T fs) t) (count_at p i n x b fs)
at_number {R} eq T a s fs t p i n x b h e =
    to_pushed eq T a s fs t p (PendingCount i n x b) (TreeRun (with_bound p (bind_of x (IntValue i) ∷ [])) (BlockTask b))
    (h ∙ ap (λ (c : Bool). Next (if c then Const Okay else Form (Counting i n) (Part (enter (Int i ∷ []) (scope_at T p x b)) (Part (scope_at T p x b) End)))) e
    ∙ ap (λ (u : Term R). Next (Form (Counting i n) (Part u (Part (scope_at T p x b) End)))) (block_entered T p x (IntValue i) b))

past_last : {R : Type 0} → (eq : R → R → Bool) (T : Table R) (a : ℕ) (s : Self R) (fs : List (TreeFrame R)) (t : Term R) (p : Place R) (i n : ℤ) (x : Bytes) (b : BlockTree) → found_in eq T a s fs t ≡ Next (counting i n (scope_at T p x b)) → int_lt n i ≡ true
    → Moves eq T a s (plug (frames_of T fs) t) (tree_moved Stepped fs (TreeValue OkayValue))
past_last {R} eq T a s fs t p i n x b h e =
    to_here eq T a s fs t (TreeValue OkayValue) (h ∙ ap (λ (c : Bool). Next (if c then Const Okay else Form (Counting i n) (Part (enter (Int i ∷ []) (scope_at T p x b)) (Part (scope_at T p x b) End)))) e)

count_right : {R : Type 0} → (eq : R → R → Bool) (T : Table R) (a : ℕ) (s : Self R) (fs : List (TreeFrame R)) (t : Term R) (p : Place R) (i n : ℤ) (x : Bytes) (b : BlockTree) → found_in eq T a s fs t ≡ Next (counting i n (scope_at T p x b))
    → Moves eq T a s (plug (frames_of T fs) t) (begin_count p i n x b fs)
count_right {R} eq T a s fs t p i n x b h = at (int_lt n i) refl where
  at : (c : Bool) → int_lt n i ≡ c → Moves eq T a s (plug (frames_of T fs) t) (if c then tree_moved Stepped fs (TreeValue OkayValue) else count_at p i n x b fs)
  at true e = past_last eq T a s fs t p i n x b h e
  at false e = at_number eq T a s fs t p i n x b h e

-- one more than a number is above the last one exactly where that isn't above the number
above : (i n : ℤ) → int_lt i n ≡ false → int_lt n (i +ℤ pos 1) ≡ true
above i n h = grind (arith, ints, h)

not_above : (i n : ℤ) → int_lt i n ≡ true → int_lt n (i +ℤ pos 1) ≡ false
not_above i n h = grind (arith, ints, h)

next_right : {R : Type 0} → (eq : R → R → Bool) (T : Table R) (a : ℕ) (s : Self R) (fs : List (TreeFrame R)) (t : Term R) (p : Place R) (i n : ℤ) (x : Bytes) (b : BlockTree) → found_in eq T a s fs t ≡ Next (counting (i +ℤ pos 1) n (scope_at T p x b))
    → Moves eq T a s (plug (frames_of T fs) t) (next_count p i n x b fs)
next_right {R} eq T a s fs t p i n x b h = at (int_lt i n) refl where
  at : (c : Bool) → int_lt i n ≡ c → Moves eq T a s (plug (frames_of T fs) t) (if c then count_at p (i +ℤ pos 1) n x b fs else tree_moved Stepped fs (TreeValue OkayValue))
  at true e = at_number eq T a s fs t p (i +ℤ pos 1) n x b h (not_above i n e)
  at false e = past_last eq T a s fs t p (i +ℤ pos 1) n x b h (above i n e)

to_given : {R : Type 0} → (eq : R → R → Bool) (T : Table R) (a : ℕ) (s : Self R) (v w : PlainValue R) (p : Place R) (x : Bytes) (b : BlockTree) (fs : List (TreeFrame R))
    → Moves eq T a s (plug (frames_of T fs) (Form For (Part (Const (read_value T v)) (Part (Const (read_value T w)) (Part (scope_at T p x b) End))))) (give_to v w p x b fs)
to_given eq T a s (IntValue m) (IntValue n) p x b fs = count_right eq T a s fs _ p m n x b refl
to_given eq T a s (IntValue m) (TruthValue z) p x b fs = to_here eq T a s fs _ (tree_raises (codes "type")) refl
to_given eq T a s (IntValue m) OkayValue p x b fs = to_here eq T a s fs _ (tree_raises (codes "type")) refl
to_given eq T a s (IntValue m) (TextValue z) p x b fs = to_here eq T a s fs _ (tree_raises (codes "type")) refl
to_given eq T a s (IntValue m) (ExceptionValue z) p x b fs = to_here eq T a s fs _ (tree_raises (codes "type")) refl
to_given eq T a s (IntValue m) (ThreadValue z) p x b fs = to_here eq T a s fs _ (tree_raises (codes "type")) refl
to_given eq T a s (IntValue m) (ClosureValue tz cz gz iz csz) p x b fs = to_here eq T a s fs _ (tree_raises (codes "type")) (closure_cases T (read_values T csz) (proc_of T gz iz) (λ f. find eq (activations_at a (frames_of T fs)) (self_at s (frames_of T fs)) (Form For (Part (Const (Int m)) (Part (Const f) (Part (scope_at T p x b) End)))) ≡ Next (wrong_type)) (λ params body. refl) (λ names G i. refl))
to_given eq T a s (IntValue m) (LocationValue kz z) p x b fs = to_here eq T a s fs _ (tree_raises (codes "type")) refl
to_given eq T a s (TruthValue y) w p x b fs = to_here eq T a s fs _ (tree_raises (codes "type")) refl
to_given eq T a s OkayValue w p x b fs = to_here eq T a s fs _ (tree_raises (codes "type")) refl
to_given eq T a s (TextValue y) w p x b fs = to_here eq T a s fs _ (tree_raises (codes "type")) refl
to_given eq T a s (ExceptionValue y) w p x b fs = to_here eq T a s fs _ (tree_raises (codes "type")) refl
to_given eq T a s (ThreadValue y) w p x b fs = to_here eq T a s fs _ (tree_raises (codes "type")) refl
to_given eq T a s (ClosureValue ty cy gy iy csy) w p x b fs = to_here eq T a s fs _ (tree_raises (codes "type")) (closure_cases T (read_values T csy) (proc_of T gy iy) (λ f. find eq (activations_at a (frames_of T fs)) (self_at s (frames_of T fs)) (Form For (Part (Const f) (Part (Const (read_value T w)) (Part (scope_at T p x b) End)))) ≡ Next (wrong_type)) (λ params body. refl) (λ names G i. refl))
to_given eq T a s (LocationValue ky y) w p x b fs = to_here eq T a s fs _ (tree_raises (codes "type")) refl

pub left_right : {R : Type 0} → (eq : R → R → Bool) (T : Table R) (a : ℕ) (s : Self R) (o : R) (m : Mode) (k : Kept R) (fs : List (TreeFrame R)) → Moves eq T a s (plug (frames_of T fs) (Form (Within o m) (Part (kept_term T k) End))) (leave_tree o m k fs)
left_right eq T a s o Plain (KeptValue v) fs = to_here eq T a s fs _ (TreeValue v) refl
left_right eq T a s o Plain (KeptRaising r) fs = to_here eq T a s fs _ (TreeRaising r) refl
left_right eq T a s o Held (KeptValue v) fs = asks eq T a s fs _ (PlainLeave o (KeptValue v)) TreeHere refl
left_right eq T a s o Held (KeptRaising r) fs = asks eq T a s fs _ (PlainLeave o (KeptRaising r)) TreeHere refl
left_right eq T a s o Inner (KeptValue v) fs = to_here eq T a s fs _ (TreeValue v) refl
left_right eq T a s o Inner (KeptRaising r) fs = to_here eq T a s fs _ (TreeRaising r) refl

foreach_given : {R : Type 0} → (eq : R → R → Bool) (T : Table R) (a : ℕ) (s : Self R) (v : PlainValue R) (p : Place R) (x : Bytes) (b : BlockTree) (fs : List (TreeFrame R))
    → Moves eq T a s (plug (frames_of T fs) (Form Foreach (Part (Const (read_value T v)) (Part (scope_at T p x b) End)))) (give_foreach v p x b fs)
foreach_given eq T a s (IntValue z) p x b fs = to_here eq T a s fs _ (tree_raises (codes "type")) refl
foreach_given eq T a s (TruthValue z) p x b fs = to_here eq T a s fs _ (tree_raises (codes "type")) refl
foreach_given eq T a s OkayValue p x b fs = to_here eq T a s fs _ (tree_raises (codes "type")) refl
foreach_given eq T a s (TextValue z) p x b fs = to_here eq T a s fs _ (tree_raises (codes "type")) refl
foreach_given eq T a s (ExceptionValue z) p x b fs = to_here eq T a s fs _ (tree_raises (codes "type")) refl
foreach_given eq T a s (ThreadValue z) p x b fs = to_here eq T a s fs _ (tree_raises (codes "type")) refl
foreach_given eq T a s (LocationValue Object z) p x b fs = to_here eq T a s fs _ (tree_raises (codes "type")) refl
foreach_given eq T a s (LocationValue Variable z) p x b fs = to_here eq T a s fs _ (tree_raises (codes "type")) refl
foreach_given eq T a s (LocationValue Writer z) p x b fs = to_here eq T a s fs _ (tree_raises (codes "type")) refl
foreach_given eq T a s (LocationValue Condition z) p x b fs = to_here eq T a s fs _ (tree_raises (codes "type")) refl
foreach_given eq T a s (LocationValue Engine z) p x b fs = to_here eq T a s fs _ (tree_raises (codes "type")) refl
foreach_given eq T a s (LocationValue Array r) p x b fs = asks eq T a s fs _ (PlainEachSize r) (TreeScope p x b) refl
foreach_given eq T a s (ClosureValue t c group index cs) p x b fs = to_here eq T a s fs _ (tree_raises (codes "type")) (closure_cases T (read_values T cs) (proc_of T group index) (λ f. find eq (activations_at a (frames_of T fs)) (self_at s (frames_of T fs)) (Form Foreach (Part (Const f) (Part (scope_at T p x b) End))) ≡ Next (wrong_type)) (λ params body. refl) (λ names G i. refl))

watch_given : {R : Type 0} → (eq : R → R → Bool) (T : Table R) (a : ℕ) (s : Self R) (v : PlainValue R) (p : Place R) (e : ExprTree) (fs : List (TreeFrame R))
    → Moves eq T a s (plug (frames_of T fs) (Form Watch (Part (Const (read_value T v)) (Part (expr_at T p e) End)))) (give_watch (tree_self s fs) v p e fs)
watch_given eq T a s (IntValue z) p e fs = to_here eq T a s fs _ (tree_raises (codes "type")) refl
watch_given eq T a s OkayValue p e fs = to_here eq T a s fs _ (tree_raises (codes "type")) refl
watch_given eq T a s (TextValue z) p e fs = to_here eq T a s fs _ (tree_raises (codes "type")) refl
watch_given eq T a s (ExceptionValue z) p e fs = to_here eq T a s fs _ (tree_raises (codes "type")) refl
watch_given eq T a s (ThreadValue z) p e fs = to_here eq T a s fs _ (tree_raises (codes "type")) refl
watch_given eq T a s (TruthValue z) p e fs = to_here eq T a s fs _ (tree_raises (codes "type")) refl
watch_given eq T a s (LocationValue Object z) p e fs = to_here eq T a s fs _ (tree_raises (codes "type")) refl
watch_given eq T a s (LocationValue Array z) p e fs = to_here eq T a s fs _ (tree_raises (codes "type")) refl
watch_given eq T a s (LocationValue Variable z) p e fs = to_here eq T a s fs _ (tree_raises (codes "type")) refl
watch_given eq T a s (LocationValue Writer z) p e fs = to_here eq T a s fs _ (tree_raises (codes "type")) refl
watch_given eq T a s (LocationValue Engine z) p e fs = to_here eq T a s fs _ (tree_raises (codes "type")) refl
watch_given eq T a s (ClosureValue t c group index cs) p e fs = to_here eq T a s fs _ (tree_raises (codes "type")) (closure_cases T (read_values T cs) (proc_of T group index) (λ f. find eq (activations_at a (frames_of T fs)) (self_at s (frames_of T fs)) (Form Watch (Part (Const f) (Part (expr_at T p e) End))) ≡ Next (wrong_type)) (λ params body. refl) (λ names G i. refl))
watch_given {R} eq T a s (LocationValue Condition c) p e fs =
    subst (λ (u : Self R). Moves eq T a s (plug (frames_of T fs) (Form Watch (Part (Const (Loc Condition c)) (Part (expr_at T p e) End)))) (begin_watch u.object u.plain c p e fs)) (selfed T s fs)
    (at (self_at s (frames_of T fs)).object (self_at s (frames_of T fs)).plain refl) where
      at : (o : Option R) (b : Bool) → watching (self_at s (frames_of T fs)).object (self_at s (frames_of T fs)).plain c (expr_at T p e) ≡ watching o b c (expr_at T p e)
          → Moves eq T a s (plug (frames_of T fs) (Form Watch (Part (Const (Loc Condition c)) (Part (expr_at T p e) End)))) (begin_watch o b c p e fs)
      at (Some o) false h = to_pushed eq T a s fs _ p (PendingTesting o c e) (TreeRun p (ExprTask e)) h
      at (Some o) true h = to_here eq T a s fs _ (tree_raises (codes "not_serialized")) h
      at None b h = to_here eq T a s fs _ (tree_raises (codes "not_serialized")) h

testing_given : {R : Type 0} → (eq : R → R → Bool) (T : Table R) (a : ℕ) (s : Self R) (o c : R) (v : PlainValue R) (p : Place R) (e : ExprTree) (fs : List (TreeFrame R))
    → Moves eq T a s (plug (frames_of T fs) (Form (Testing o c) (Part (Const (read_value T v)) (Part (expr_at T p e) End)))) (give_testing o c v p e fs)
testing_given eq T a s o c (TruthValue true) p e fs = to_here eq T a s fs _ (TreeValue OkayValue) refl
testing_given eq T a s o c (TruthValue false) p e fs = asks eq T a s fs _ (PlainLineUp o c) (TreeTest p e) refl
testing_given eq T a s o c (IntValue z) p e fs = to_here eq T a s fs _ (tree_raises (codes "type")) refl
testing_given eq T a s o c OkayValue p e fs = to_here eq T a s fs _ (tree_raises (codes "type")) refl
testing_given eq T a s o c (TextValue z) p e fs = to_here eq T a s fs _ (tree_raises (codes "type")) refl
testing_given eq T a s o c (ExceptionValue z) p e fs = to_here eq T a s fs _ (tree_raises (codes "type")) refl
testing_given eq T a s o c (ThreadValue z) p e fs = to_here eq T a s fs _ (tree_raises (codes "type")) refl
testing_given eq T a s o c (LocationValue k z) p e fs = to_here eq T a s fs _ (tree_raises (codes "type")) refl
testing_given eq T a s o c (ClosureValue t n group index cs) p e fs = to_here eq T a s fs _ (tree_raises (codes "type")) (closure_cases T (read_values T cs) (proc_of T group index) (λ f. find eq (activations_at a (frames_of T fs)) (self_at s (frames_of T fs)) (Form (Testing o c) (Part (Const f) (Part (expr_at T p e) End))) ≡ Next (wrong_type)) (λ params body. refl) (λ names G i. refl))

field_given : {R : Type 0} → (eq : R → R → Bool) (T : Table R) (a : ℕ) (s : Self R) → IsMadeTable T → (v : PlainValue R) (p : Place R) (x : Bytes) (body : FieldTree) (fs : List (TreeFrame R))
    → Moves eq T a s (plug (frames_of T fs) (fill (field_frame T p x body) (Const (read_value T v)))) (give_field T (count_activations a fs) v p x body fs)
field_given eq T a s w v p x (ValueOf e) fs = args_right eq T a s w fs (ToSetValue x) p (v ∷ []) (AnExpr e NoExprs)
field_given eq T a s w v p x (AliasOf y e place) fs = args_right eq T a s w fs (ToSetAlias x y) p (v ∷ []) (AnExpr e NoExprs)
field_given eq T a s w v p x (MethodOf q) fs = silent eq T a s fs _ (tree_moved Silent fs (TreeMethod p v x q)) (record { tag_is = refl; leads = here T fs (TreeMethod p v x q) _ refl })

-- a value in a frame
pub given : {R : Type 0} → (eq : R → R → Bool) (T : Table R) (a : ℕ) (s : Self R) → IsMadeTable T → (v : PlainValue R) (p : Place R) (pending : PendingForm R) (fs : List (TreeFrame R))
    → Moves eq T a s (plug (frames_of T fs ++ pending_frames T p pending) (Const (read_value T v))) (give_pending eq T (count_activations a fs) (tree_self s fs) v p pending fs)
given eq T a s w v p (PendingThen is) fs = of_term eq T a s _ _ (begin_rest Stepped p is fs) (one_frame T fs _ _) (stepped eq T a s fs _ _ (begin_rest Stepped p is fs) refl (rest_starts T fs Stepped p is))
given eq T a s w v p (PendingLet x bs is) fs =
    of_term eq T a s _ _ (begin_binds Stepped (with_bound p (bind_of x v ∷ [])) bs is fs) (one_frame T fs _ _)
    (stepped eq T a s fs _ _ (begin_binds Stepped (with_bound p (bind_of x v ∷ [])) bs is fs) (ap Next (let_given T p x v bs is)) (binds_start T fs Stepped (with_bound p (bind_of x v ∷ [])) bs is))
given eq T a s w v p (PendingVar x bs is) fs = of_term eq T a s _ _ (tree_moved (Asks (PlainNewVariable v)) fs (TreeAct (PlainNewVariable v) (TreeUnder p x bs is))) (one_frame T fs _ _) (asks eq T a s fs _ (PlainNewVariable v) (TreeUnder p x bs is) refl)
given eq T a s w v p (PendingIf b arms last) fs = of_term eq T a s _ _ (give_if v p b arms last fs) (one_frame T fs _ _) (if_given eq T a s v p b arms last fs)
given eq T a s w v p (PendingChain op e links) fs =
    of_term eq T a s _ _ (give_left v p op e links fs) (behind T fs (with_links p links fs) (links_around T p links) (link_frame T p op e) _ (links_frames T p links fs)) (left_given eq T a s v p op e links fs)
given eq T a s w v p (PendingRight left op) fs = of_term eq T a s _ _ (tree_result (operated eq op left v) fs) (one_frame T fs _ _) (result_right eq T a s fs _ _ (operated eq op left v) refl (operated_is eq T op left v))
given eq T a s w v p (PendingHead x ss) fs =
    of_term eq T a s _ _ (give_suffix T (count_activations a fs) v p x ss fs) (behind T fs (with_suffixes p ss fs) (suffixes_around T p ss) (suffix_frame T p x) _ (suffixes_frames T p ss fs)) (suffix_given eq T a s w v p x ss fs)
given {R} eq T a s w v p (PendingArguments callee done es) fs =
    of_term eq T a s _ _ (begin_args T (count_activations a fs) callee p (done ++ v ∷ []) es fs) (one_frame T fs _ _ ∙ ap (plug (frames_of T fs)) (one_more callee)) (args_right eq T a s w fs callee p (done ++ v ∷ []) es) where
      values_end : (vs : List (PlainValue R)) → values_before (read_all T vs) (Part (Const (read_value T v)) (exprs_at T p es)) ≡ values_before (read_all T (vs ++ v ∷ [])) (exprs_at T p es)
      values_end [] = refl
      values_end (u ∷ vs) = ap (Part (Const (read_value T u))) (values_end vs)

      one_more : (callee : Callee R) → fill (callee_frame T callee done (exprs_at T p es)) (Const (read_value T v)) ≡ callee_form T callee (done ++ v ∷ []) (exprs_at T p es)
      one_more (ToCall f) = ap (λ ts. Form Call (Part (Const (read_value T f)) ts)) (values_end done)
      one_more (ToBuiltin r) = ap (Form (Apply (builtin_at r))) (values_end done)
      one_more ToArray = ap (Form MakeArray) (values_end done)
      one_more ToIndex = ap (Form Index) (values_end done)
      one_more ToClone = ap (Form Clone) (values_end done)
      one_more ToSetIndex = ap (Form SetIndex) (values_end done)
      one_more (ToSetValue x) = ap (Form (SetValue x)) (values_end done)
      one_more (ToSetAlias x y) = ap (Form (SetAlias x y)) (values_end done)
      one_more ToRedirect = ap (Form Redirect) (values_end done)
      one_more (ToInvoke x) = ap (Form (Invoke x)) (values_end done)
given eq T a s w v p PendingRaise fs = of_term eq T a s _ _ (give_raise v fs) (one_frame T fs _ _) (raise_given eq T a s v fs)
given eq T a s w v p (PendingWatch e) fs = of_term eq T a s _ _ (give_watch (tree_self s fs) v p e fs) (one_frame T fs _ _) (watch_given eq T a s v p e fs)
given eq T a s w v p (PendingTesting o c e) fs = of_term eq T a s _ _ (give_testing o c v p e fs) (one_frame T fs _ _) (testing_given eq T a s o c v p e fs)
given eq T a s w v p PendingCalled fs = of_term eq T a s _ _ (tree_moved Stepped fs (TreeValue v)) (one_frame T fs _ _) (to_here eq T a s fs _ (TreeValue v) refl)
given eq T a s w v p (PendingWithin o m) fs = of_term eq T a s _ _ (leave_tree o m (KeptValue v) fs) (one_frame T fs _ _) (left_right eq T a s o m (KeptValue v) fs)
given eq T a s w v p (PendingTry arms last) fs = of_term eq T a s _ _ (tree_moved Stepped fs (TreeValue v)) (one_frame T fs _ _) (to_here eq T a s fs _ (TreeValue v) (try_value eq (activations_at a (frames_of T fs)) (self_at s (frames_of T fs)) (read_value T v) (arms_at T p arms last)))
given eq T a s w v p (PendingGuard e b arms last) fs = of_term eq T a s _ _ (give_guard v p e b arms last fs) (one_frame T fs _ _) (guard_given eq T a s v p e b arms last fs)
given eq T a s w v p (PendingLast b) fs = of_term eq T a s _ _ (tree_moved Stepped (push p (PendingKept (KeptValue v)) fs) (TreeRun p (BlockTask b))) (one_frame T fs _ _) (to_pushed eq T a s fs _ p (PendingKept (KeptValue v)) (TreeRun p (BlockTask b)) refl)
given eq T a s w v p (PendingKept (KeptValue u)) fs = of_term eq T a s _ _ (tree_moved Stepped fs (TreeValue u)) (one_frame T fs _ _) (to_here eq T a s fs _ (TreeValue u) refl)
given eq T a s w v p (PendingKept (KeptRaising r)) fs = of_term eq T a s _ _ (tree_moved Stepped fs (TreeRaising r)) (one_frame T fs _ _) (to_here eq T a s fs _ (TreeRaising r) refl)
given eq T a s w v p (PendingAssign x) fs = of_term eq T a s _ _ (tree_result (assigned (target_value T p x) v) fs) (one_frame T fs _ _) (result_right eq T a s fs _ _ (assigned (target_value T p x) v) refl (target_is eq T (activations_at a (frames_of T fs)) (self_at s (frames_of T fs)) p x v))
given eq T a s w v p (PendingField x body) fs = of_term eq T a s _ _ (give_field T (count_activations a fs) v p x body fs) (one_frame T fs _ _) (field_given eq T a s w v p x body fs)
given eq T a s w v p (PendingObject flags done x other fields) fs = of_term eq T a s _ _ (begin_fields p flags (done ++ done_with x other v ∷ []) fields fs) (one_frame T fs _ _) (operand_given eq T a s v p flags done x other fields fs)
given eq T a s w v p (PendingFirst x n b) fs = of_term eq T a s _ _ (tree_moved Silent (push p (PendingTo v x b) fs) (TreeRun p (ExprTask n))) (one_frame T fs _ _) (silent eq T a s fs _ (tree_moved Silent (push p (PendingTo v x b) fs) (TreeRun p (ExprTask n))) (record { tag_is = refl; leads = pushed T fs p (PendingTo v x b) (TreeRun p (ExprTask n)) _ refl }))
given eq T a s w v p (PendingTo first x b) fs = of_term eq T a s _ _ (give_to first v p x b fs) (one_frame T fs _ _) (to_given eq T a s first v p x b fs)
given eq T a s w v p (PendingCount i n x b) fs = of_term eq T a s _ _ (next_count p i n x b fs) (one_frame T fs _ _) (next_right eq T a s fs _ p i n x b refl)
given eq T a s w v p (PendingForeach x b) fs = of_term eq T a s _ _ (give_foreach v p x b fs) (one_frame T fs _ _) (foreach_given eq T a s v p x b fs)
given eq T a s w v p (PendingEach r i n x b) fs = of_term eq T a s _ _ (tree_moved Stepped fs (TreeAct (PlainEachItem r (suc i) n) (TreeScope p x b))) (one_frame T fs _ _) (to_here eq T a s fs _ (TreeAct (PlainEachItem r (suc i) n) (TreeScope p x b)) refl)
given eq T a s w v p (PendingLoop b) fs = of_term eq T a s _ _ (tree_moved Stepped (push p (PendingLoop b) fs) (TreeRun p (BlockTask b))) (one_frame T fs _ _) (to_pushed eq T a s fs _ p (PendingLoop b) (TreeRun p (BlockTask b)) refl)
