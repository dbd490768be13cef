-- A window at the form of an act, and the window behind the act's answer.
use Rattle.std.specs.Prelude.{List, None, [], refl, ℕ, ◌≡◌, ◌⊎◌}
use Rattle.std.proofs.Common.{ap, inl, inr, subst, sym, ◌∙◌}
use Rattle.obq_base.specs.declared.code.SourceCode.{SourceCode}
use Rattle.obq_base.specs.declared.places.Ref.{Ref}
use Rattle.obq_model.specs.Step.{Found, Frame, JoinWith, Needs, Operation, Self, activations_at, find, plug, self_at}
use Rattle.obq_model.specs.Terms.{Term}
use Rattle.obq_moves.specs.Store.{same_ref, store}
use Rattle.obq_moves.specs.Views.{Shown}
use Rattle.obq_answers.specs.Forms.{AnswerReads, FormKeeps, FormReads, IsAtForm, answered_at, with_focus}
use Rattle.obq_answers.specs.Readings.{Counts, Fits, NeedsAct}
use Rattle.obq_answers.proofs.Allowed.{needs_allowed}
use Rattle.obq_answers.proofs.Asking.{IsAsked, counted_alike, goes_on, own_needs}
use Rattle.obq_answers.proofs.Fitting.{answered_fits}
use Rattle.obq_windows.specs.Acts.{AnswerCalled, AnswerForm, AnswerMethod, AnswerRaising, AnswerTest, AnswerValue, CompleteAnswer, PlainAnswer, answer_node, left_by}
use Rattle.obq_windows.specs.Agrees.{AfterIs, Agrees, FocusIs, FramesAre}
use Rattle.obq_windows.specs.Complete.{CompleteAfter, CompleteFocus, CompleteFrames, CompleteOperation}
use Rattle.obq_windows.specs.Laws.{Reads}
use Rattle.obq_windows.specs.Moves.{act_ends, tree_refused}
use Rattle.obq_windows.specs.Trees.{PlainCloning, PlainField, PlainJoin, PlainOperation, TreeAct, TreeAfter, TreeFocus, TreeFrame, TreeHere, TreeScope, TreeTest, TreeUnder, frames_of, read_operation, scope_after, term_of}
use Rattle.obq_windows.specs.Values.{Table, tree_params}
use Rattle.obq_windows.specs.Windows.{Activation, NodeAct, NodeAfter, NodeFocus, NodeFrame, NodeMoved, Store}
use Rattle.obq_windows.proofs.Acts.{Asked, act_asks}
use Rattle.obq_windows.proofs.AlikeMoves.{self_alike}
use Rattle.obq_windows.proofs.Answering.{AtAct, answers_read, at_act}
use Rattle.obq_windows.proofs.Selves.{selfed}
use Rattle.obq_windows.proofs.Whole.{made_of}

abbrev operation_of : Operation Ref → Found Ref → Operation Ref
operation_of other (Needs o fs) = o
operation_of other found = other

abbrev frames_found : Found Ref → List (Frame Ref)
frames_found (Needs o fs) = fs
frames_found found = []

abbrev form_in : PlainOperation Ref → TreeFocus Ref → PlainOperation Ref
form_in other (TreeAct op after) = op
form_in other x = other

abbrev after_in : TreeAfter Ref → TreeFocus Ref → TreeAfter Ref
after_in other (TreeAct op after) = after
after_in other x = other

-- the window at a form as a window over trees
pub record Own (parts : List SourceCode) (T : Table Ref) (a : ℕ) (self : Self Ref) (w : Shown) (t : Term Ref) (op : PlainOperation Ref) (after : NodeAfter) (o : Operation Ref) (around : List (Frame Ref)) : Type 0 where
  pub frames : List (TreeFrame Ref)
  pub tree : TreeAfter Ref
  pub height : ℕ
  pub are_frames : FramesAre T (store parts) w.act height w.frames frames
  pub is_after : AfterIs T (store parts) w.act height after tree
  pub complete : CompleteFrames T frames
  pub operands : CompleteOperation T op
  pub place : CompleteAfter T op tree
  pub fits : Fits a self w
  pub operation : o ≡ read_operation T op (scope_after T tree)
  pub around_is : around ≡ frames_of T frames
  pub next : find same_ref a self t ≡ Needs (read_operation T op (scope_after T tree)) (frames_of T frames)

pub own : (parts : List SourceCode) (T : Table Ref) (a : ℕ) (self : Self Ref) (w : Shown) (t : Term Ref) (op : PlainOperation Ref) (after : NodeAfter) (o : Operation Ref) (around : List (Frame Ref)) → IsAtForm parts T a self w t op after o around
    → Own parts T a self w t op after o around
own parts T a self w t op after o around h =
    let n : NeedsAct parts T a self w t = h.needs in
    let at : AtAct T (store parts) w.act n.height op after n.focus = at_act T (store parts) w.act n.height op after n.focus (subst (λ (x : NodeFocus Ref). FocusIs T (store parts) w.act n.height x n.focus) h.form n.is_focus) in
    let l : CompleteOperation T op × CompleteAfter T op at.after = subst (λ (z : TreeFocus Ref). CompleteFocus T z) at.is_act n.complete.focus in
    let same_op : n.op ≡ op = ap (form_in op) (sym n.is_act ∙ at.is_act) in
    let same_after : n.after ≡ at.after = ap (after_in at.after) (sym n.is_act ∙ at.is_act) in
    let next : find same_ref a self t ≡ Needs (read_operation T op (scope_after T at.after)) (frames_of T n.frames) =
    n.next ∙ ap (λ (z : PlainOperation Ref). Needs (read_operation T z (scope_after T n.after)) (frames_of T n.frames)) same_op ∙ ap (λ (z : TreeAfter Ref). Needs (read_operation T op (scope_after T z)) (frames_of T n.frames)) same_after in
    record {
      frames = n.frames;
      tree = at.after;
      height = n.height;
      are_frames = n.are_frames;
      is_after = at.is_after;
      complete = n.complete.frames;
      operands = l.0;
      place = l.1;
      fits = n.fits;
      operation = ap (operation_of o) (sym h.next ∙ next);
      around_is = ap frames_found (sym h.next ∙ next);
      next = next;
    }

-- ---- a window at a form that reads back like a term

pub form_reads : FormReads
form_reads parts T g a self w t like op after e o around q =
    let r : Reads T (store parts) w.act w.frames w.focus like.term = like.reads.reads in
    let at : AtAct T (store parts) w.act r.height op after r.focus = at_act T (store parts) w.act r.height op after r.focus (subst (λ (x : NodeFocus Ref). FocusIs T (store parts) w.act r.height x r.focus) e r.is_focus) in
    let asked : Asked T r.frames op at.after o around =
    act_asks same_ref T (made_of T (store parts) g) a self r.frames op at.after o around (sym (ap (find same_ref a self) (r.term ∙ ap (term_of T r.frames) at.is_act)) ∙ sym like.next ∙ q) in
    record {
      needs = record {
        frames = r.frames;
        focus = r.focus;
        height = r.height;
        are_frames = r.are_frames;
        is_focus = r.is_focus;
        complete = r.complete;
        fits = like.reads.fits;
        op = op;
        after = at.after;
        is_act = at.is_act;
        next = q ∙ ap (λ (z : Operation Ref). Needs z around) asked.operation ∙ ap (Needs (read_operation T op (scope_after T at.after))) asked.frames;
      };
      form = e;
      next = q;
    }

pub form_keeps : FormKeeps
form_keeps parts T g a self w t op after o around h =
    let k : Own parts T a self w t op after o around = own parts T a self w t op after o around h in
    record {
      scope = scope_after T k.tree;
      operation = k.operation;
      complete = k.operands;
      activations = ap (λ (c : Counts). c.activations) k.fits ∙ counted_alike T (store parts) a w.act k.height w.frames k.frames k.are_frames ∙ ap (activations_at a) (sym k.around_is);
      current = ap (λ (c : Counts). c.current) k.fits ∙ self_alike T (store parts) self w.act k.height w.frames k.frames k.are_frames ∙ sym (selfed T self k.frames) ∙ ap (self_at self) (sym k.around_is);
    }

-- ---- the window's own term

-- the window at this form reads back as the form in its frames
pub form_term : (T : Table Ref) (S : Store Ref) (act : Activation Ref) (b : ℕ) (ns : List (NodeFrame Ref)) (fs : List (TreeFrame Ref)) → FramesAre T S act b ns fs → CompleteFrames T fs → (op : PlainOperation Ref) (after : NodeAfter) (tree : TreeAfter Ref) → AfterIs T S act b after tree
    → CompleteOperation T op → CompleteAfter T op tree → Reads T S act ns (NodeAct op after) (term_of T fs (TreeAct op tree))
form_term T S act b ns fs fr k op after tree h c l = record { frames = fs; focus = TreeAct op tree; height = b; are_frames = fr; is_focus = (after, refl, h); complete = record { frames = k; focus = (c, l) }; term = refl }

-- an operation that is asked, or the clone of no objects
pub asked_or : (op : PlainOperation Ref) → IsAsked op ⊎ ((fields : List (PlainField Ref)) × (op ≡ PlainCloning None fields []))
asked_or (PlainCloning None fields []) = inr (fields, refl)
asked_or op = inl tt

pub own_goes_on : (parts : List SourceCode) (T : Table Ref) → Agrees T (store parts) → (a : ℕ) (self : Self Ref) (w : Shown) (t : Term Ref) (op : PlainOperation Ref) (after : NodeAfter) (o : Operation Ref) (around : List (Frame Ref)) (k : Own parts T a self w t op after o around) → IsAsked op
    → act_ends (tree_params T) (tree_refused T) (activations_at a (frames_of T k.frames)) op ≡ None
own_goes_on parts T g a self w t op after o around k asked =
    goes_on T (made_of T (store parts) g) (activations_at a (frames_of T k.frames)) op (scope_after T k.tree) k.operands asked (needs_allowed same_ref a self t (read_operation T op (scope_after T k.tree)) (frames_of T k.frames) k.next)

-- ---- answers

abbrev LeftReads : Table Ref → Store Ref → NodeMoved Ref → Term Ref → Type 0
LeftReads T S m t = Reads T S m.act m.frames m.focus t

left_reads : (T : Table Ref) (S : Store Ref) → Agrees T S → (a : ℕ) (self : Self Ref) (act : Activation Ref) (b : ℕ) (ns : List (NodeFrame Ref)) (fs : List (TreeFrame Ref)) → FramesAre T S act b ns fs → CompleteFrames T fs
    → (op : PlainOperation Ref) (after : NodeAfter) (tree : TreeAfter Ref) → AfterIs T S act b after tree → CompleteOperation T op → CompleteAfter T op tree → act_ends (tree_params T) (tree_refused T) (activations_at a (frames_of T fs)) op ≡ None
    → (answer : PlainAnswer Ref) → CompleteAnswer T op answer → LeftReads T S (answer_node S op after answer act ns) (plug (frames_of T fs) (left_by T (read_operation T op (scope_after T tree)) answer))
left_reads T S g a self act b ns fs fr k op after tree h c l e answer d =
    answers_read same_ref T S g a self act ns op after (term_of T fs (TreeAct op tree)) (form_term T S act b ns fs fr k op after tree h c l) (read_operation T op (scope_after T tree)) (frames_of T fs) (own_needs same_ref T (made_of T S g) a self fs op tree e) answer d

-- a clone of no objects has the answers of any form whose answer goes in place
as_join : (fields : List (PlainField Ref)) (S : Store Ref) (after : NodeAfter) (answer : PlainAnswer Ref) (act : Activation Ref) (ns : List (NodeFrame Ref)) → answer_node S (PlainCloning None fields []) after answer act ns ≡ answer_node S (PlainJoin 0) after answer act ns
as_join fields S after (AnswerValue v) act ns = refl
as_join fields S after (AnswerRaising r) act ns = refl
as_join fields S after AnswerTest act ns = refl
as_join fields S after (AnswerForm p) act ns = refl
as_join fields S after (AnswerMethod o m f vs) act ns = refl
as_join fields S after (AnswerCalled f vs) act ns = refl

complete_as_join : (fields : List (PlainField Ref)) (T : Table Ref) (answer : PlainAnswer Ref) → CompleteAnswer T (PlainCloning None fields []) answer → CompleteAnswer T (PlainJoin 0) answer
complete_as_join fields T (AnswerValue v) c = c
complete_as_join fields T (AnswerRaising r) c = c
complete_as_join fields T AnswerTest c = c
complete_as_join fields T (AnswerForm p) c = c
complete_as_join fields T (AnswerMethod o m f vs) c = c
complete_as_join fields T (AnswerCalled f vs) c = c

after_as_join : (fields : List (PlainField Ref)) (T : Table Ref) (tree : TreeAfter Ref) → CompleteAfter T (PlainCloning None fields []) tree → CompleteAfter T (PlainJoin 0) tree
after_as_join fields T TreeHere c = c
after_as_join fields T (TreeUnder p x bs is) c = c
after_as_join fields T (TreeScope p x b) c = c
after_as_join fields T (TreeTest p e) c = c

any_left_reads : (parts : List SourceCode) (T : Table Ref) → Agrees T (store parts) → (a : ℕ) (self : Self Ref) (w : Shown) (t : Term Ref) (op : PlainOperation Ref) (after : NodeAfter) (o : Operation Ref) (around : List (Frame Ref)) (k : Own parts T a self w t op after o around)
    → IsAsked op ⊎ ((fields : List (PlainField Ref)) × (op ≡ PlainCloning None fields [])) → (answer : PlainAnswer Ref) → CompleteAnswer T op answer
    → LeftReads T (store parts) (answer_node (store parts) op after answer w.act w.frames) (plug (frames_of T k.frames) (left_by T (read_operation T op (scope_after T k.tree)) answer))
any_left_reads parts T g a self w t op after o around k (inl asked) answer c =
    left_reads T (store parts) g a self w.act k.height w.frames k.frames k.are_frames k.complete op after k.tree k.is_after k.operands k.place (own_goes_on parts T g a self w t op after o around k asked) answer c
any_left_reads parts T g a self w t op after o around k (inr (fields, e)) answer c =
    subst (λ (z : PlainOperation Ref). LeftReads T (store parts) (answer_node (store parts) z after answer w.act w.frames) (plug (frames_of T k.frames) (left_by T (read_operation T z (scope_after T k.tree)) answer))) (sym e)
    (subst (λ (m : NodeMoved Ref). LeftReads T (store parts) m (plug (frames_of T k.frames) (left_by T (JoinWith 0) answer))) (sym (as_join fields (store parts) after answer w.act w.frames))
    (left_reads T (store parts) g a self w.act k.height w.frames k.frames k.are_frames k.complete (PlainJoin 0) after k.tree k.is_after tt (after_as_join fields T k.tree (subst (λ (z : PlainOperation Ref). CompleteAfter T z k.tree) e k.place)) refl
    answer (complete_as_join fields T answer (subst (λ (z : PlainOperation Ref). CompleteAnswer T z answer) e c))))

-- what the window shows of its activation, frames and focus behind an answer
shows_left : (parts : List SourceCode) (T : Table Ref) (op : PlainOperation Ref) (after : NodeAfter) (answer : PlainAnswer Ref) (w : Shown) (t : Term Ref) → LeftReads T (store parts) (answer_node (store parts) op after answer w.act w.frames) t
    → Reads T (store parts) (answered_at parts op after answer w).act (answered_at parts op after answer w).frames (answered_at parts op after answer w).focus t
shows_left parts T op after (AnswerValue v) w t h = h
shows_left parts T op after (AnswerRaising r) w t h = h
shows_left parts T op after AnswerTest w t h = h
shows_left parts T op after (AnswerForm p) w t h = h
shows_left parts T op after (AnswerMethod o m f vs) w t h = h
shows_left parts T op after (AnswerCalled f vs) w t h = h

pub answer_reads : AnswerReads
answer_reads parts T g a self w t op after o around h answer c x =
    let k : Own parts T a self w t op after o around = own parts T a self w t op after o around h in
    record {
      reads = shows_left parts T op after answer (with_focus x w) (plug around (left_by T o answer))
          (subst (λ (z : Operation Ref). LeftReads T (store parts) (answer_node (store parts) op after answer w.act w.frames) (plug around (left_by T z answer))) (sym k.operation)
          (subst (λ (z : List (Frame Ref)). LeftReads T (store parts) (answer_node (store parts) op after answer w.act w.frames) (plug z (left_by T (read_operation T op (scope_after T k.tree)) answer))) (sym k.around_is)
          (any_left_reads parts T g a self w t op after o around k (asked_or op) answer c)));
      fits = answered_fits a self (store parts) op after answer (with_focus x w) k.fits;
    }
