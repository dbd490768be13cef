-- What an act leaves at its form.
use Rattle.std.specs.Prelude.{Bool, List, None, Option, Some, [], false, is_some, length, refl, slice_get, suc, true, unwrap_or, ℕ, ◌++◌, ◌∷◌, ◌≡◌}
use Rattle.std.proofs.Common.{ap, subst, sym, ◌∙◌, true≢false}
use Rattle.obq_base.specs.Tree.{AnItem, NoItems}
use Rattle.obq_base.specs.declared.code.Code.{Code}
use Rattle.obq_base.specs.declared.code.CodeNo.{CodeNo}
use Rattle.obq_model.specs.CodeLaws.{IsCodeAt}
use Rattle.obq_model.specs.Draft.{count_binds, count_items, draft_binds, draft_block, draft_items}
use Rattle.obq_model.specs.Occurrences.{bind_names}
use Rattle.obq_model.specs.Procedures.{Proc}
use Rattle.obq_model.specs.Put.{enter}
use Rattle.obq_model.specs.Resolved.{IsNumbered}
use Rattle.obq_model.specs.Step.{Frame, Operation, body_with, find, plug, self_at, testing}
use Rattle.obq_model.specs.Terms.{Const, EachIn, End, Form, Object, Okay, Part, Term}
use Rattle.obq_model.proofs.Plug.{plug_append}
use Rattle.obq_windows.specs.Acts.{AnswerCalled, AnswerForm, AnswerMethod, AnswerRaising, AnswerTest, AnswerValue, AnswersRead, CompleteAnswer, HasParameters, PlainAnswer, SelfIsOwn, Takes, answer_node, answer_tree, enter_node_code, enter_node_value, enter_tree, enter_tree_code, enter_tree_value, left_by, scope_of, test_at_node, test_at_tree, value_at_node, value_at_tree}
use Rattle.obq_windows.specs.Agrees.{AfterIs, Agrees, FocusIs, FrameIs, FramesAre, Same, StandsAt, act_behind, height_behind}
use Rattle.obq_windows.specs.Complete.{AllComplete, CompleteAfter, CompleteFocus, CompleteFrames, CompleteOperation, CompletePending, CompletePlace, IsComplete, Knows}
use Rattle.obq_windows.specs.Moves.{begin_vars}
use Rattle.obq_windows.specs.Places.{Place, bind_of, outside_at, place_of, with_bound, zipped}
use Rattle.obq_windows.specs.Trees.{BlockTask, ExprTask, GuardScope, ItemsTask, NameScope, NoScope, PendingCalled, PendingEach, PendingForm, PendingTesting, PendingWithin, PlainAgain, PlainBroadcast, PlainCloning, PlainEachItem, PlainEachSize, PlainExport, PlainForkOff, PlainGet, PlainGiveUp, PlainImport, PlainInvoke, PlainItemOf, PlainJoin, PlainLeave, PlainLineUp, PlainNewArray, PlainNewCondition, PlainNewEngine, PlainNewVariable, PlainOperation, PlainRead, PlainRedirect, PlainRunEngine, PlainSetAlias, PlainSetItem, PlainSetMethod, PlainSetValue, PlainSetVariable, PlainSignal, PlainSize, PlainWrite, ScopeKind, Silent, TreeAct, TreeAfter, TreeCall, TreeFocus, TreeFrame, TreeHere, TreeMake, TreeMethod, TreeMoved, TreeRaising, TreeRun, TreeScope, TreeTest, TreeUnder, TreeUnmet, TreeValue, act_form, block_at, expr_at, frames_of, kind_of, names_at, pending_frames, push, read_operation, scope_after, scope_at, term_of, tree_moved, vars_at}
use Rattle.obq_windows.specs.Values.{ClosureValue, ExceptionValue, IntValue, LocationValue, NoValues, OkayValue, PlainValue, Table, TextValue, ThreadValue, TruthValue, closure_of, no_origin, proc_named, read_all, read_value, read_values}
use Rattle.obq_windows.specs.Windows.{Activation, Enters, NodeAct, NodeAfter, NodeCalled, NodeEach, NodeFocus, NodeFrame, NodeMoved, NodeRun, NodeTesting, NodeWithin, Store, activation_of, bind, node_changed, node_moved, vars_node}
use Rattle.obq_windows.proofs.Acts.{Asked, act_asks}
use Rattle.obq_windows.proofs.AlikeCalls.{at_entry}
use Rattle.obq_windows.proofs.AlikeGives.{item_alike, var_alike}
use Rattle.obq_windows.proofs.AlikeMoves.{self_alike}
use Rattle.obq_windows.proofs.Around.{whole}
use Rattle.obq_windows.proofs.Calls.{body_right}
use Rattle.obq_windows.proofs.Frames.{frames_full}
use Rattle.obq_windows.proofs.Gives.{block_entered, var_given}
use Rattle.obq_windows.proofs.Keeps.{CompleteMoved, place_more, vars_kept, zipped_complete}
use Rattle.obq_windows.proofs.Selves.{selfed}
use Rattle.obq_windows.proofs.Slots.{not_above}
use Rattle.obq_windows.proofs.Starting.{vars_start}
use Rattle.obq_windows.proofs.Whole.{made_of}

-- the operation of a focus, and where its answer goes
abbrev operation_at : {R : Type 0} → NodeFocus R → Option (PlainOperation R)
operation_at (NodeAct op after) = Some op
operation_at nf = None

abbrev after_at : {R : Type 0} → NodeAfter → NodeFocus R → NodeAfter
after_at other (NodeAct op after) = after
after_at other nf = other

-- the window over trees is at this act's form
pub record AtAct {R : Type 0} (T : Table R) (S : Store R) (act : Activation R) (b : ℕ) (op : PlainOperation R) (na : NodeAfter) (focus : TreeFocus R) : Type 0 where
  pub after : TreeAfter R
  pub is_act : focus ≡ TreeAct op after
  pub is_after : AfterIs T S act b na after

not_act : {R : Type 0} {A : Type 0} → (op : PlainOperation R) (na : NodeAfter) (nf : NodeFocus R) → operation_at nf ≡ None → NodeAct op na ≡ nf → A
not_act op na nf e h = absurd (true≢false (ap (λ z. is_some (operation_at z)) h ∙ ap is_some e))

pub at_act : {R : Type 0} → (T : Table R) (S : Store R) (act : Activation R) (b : ℕ) (op : PlainOperation R) (na : NodeAfter) (focus : TreeFocus R) → FocusIs T S act b (NodeAct op na) focus → AtAct T S act b op na focus
at_act T S act b op na (TreeRun p (ExprTask e)) h = not_act op na _ refl h.1
at_act T S act b op na (TreeRun p (BlockTask e)) h = not_act op na _ refl h.1
at_act T S act b op na (TreeRun p (ItemsTask NoItems)) h = absurd h
at_act T S act b op na (TreeRun p (ItemsTask (AnItem i is))) h = not_act op na _ refl h.1
at_act T S act b op na (TreeValue v) h = not_act op na _ refl h
at_act T S act b op na (TreeRaising r) h = not_act op na _ refl h
at_act T S act b op na (TreeUnmet p e last) h = not_act op na _ refl h.1
at_act T S act b op na (TreeMethod p v x q) h = not_act op na _ refl h.1
at_act T S act b op na (TreeMake p flags done) h = not_act op na _ refl h.1
at_act T S act b op na (TreeCall p f vs) h = not_act op na _ refl h.0
at_act {R} T S act b op na (TreeAct op2 after) h = record {
  after = after;
  is_act = ap (λ (z : PlainOperation R). TreeAct z after) (ap (λ (z : NodeFocus R). unwrap_or (operation_at z) op) (sym h.1));
  is_after = subst (λ (z : NodeAfter). AfterIs T S act b z after) (sym (ap (after_at na) h.1)) h.2;
}

abbrev has_a_name : ScopeKind → Bool
has_a_name NameScope = true
has_a_name kind = false

abbrev has_a_guard : ScopeKind → Bool
has_a_guard GuardScope = true
has_a_guard kind = false

abbrev has_no_scope : ScopeKind → Bool
has_no_scope NoScope = true
has_no_scope kind = false

-- where the answer goes in place
no_scope : {R : Type 0} → (T : Table R) (op : PlainOperation R) (after : TreeAfter R) → kind_of op ≡ NoScope → CompleteAfter T op after → scope_after T after ≡ Const Okay
no_scope T op TreeHere e l = refl
no_scope T op (TreeUnder p x bs is) e l = absurd (true≢false (ap has_no_scope (sym e ∙ l.1)))
no_scope T op (TreeTest p x) e l = absurd (true≢false (ap has_no_scope (sym e ∙ l.1)))
no_scope T op (TreeScope p x b) e l = absurd (true≢false (ap has_no_scope (sym e ∙ l.1)))

-- the scope of a form is that of its operation
scope_is : {R : Type 0} → (T : Table R) (op : PlainOperation R) (after : TreeAfter R) → CompleteAfter T op after → scope_of (read_operation T op (scope_after T after)) ≡ scope_after T after
scope_is T (PlainGet o x) after l = sym (no_scope T (PlainGet o x) after refl l)
scope_is T (PlainRead r) after l = sym (no_scope T (PlainRead r) after refl l)
scope_is T (PlainWrite x t) after l = sym (no_scope T (PlainWrite x t) after refl l)
scope_is T (PlainInvoke o x vs) after l = sym (no_scope T (PlainInvoke o x vs) after refl l)
scope_is T (PlainItemOf r i) after l = sym (no_scope T (PlainItemOf r i) after refl l)
scope_is T (PlainSize r) after l = sym (no_scope T (PlainSize r) after refl l)
scope_is T (PlainNewArray vs) after l = sym (no_scope T (PlainNewArray vs) after refl l)
scope_is T (PlainEachSize r) after l = refl
scope_is T (PlainEachItem r i n) after l = refl
scope_is T (PlainLineUp o c) after l = refl
scope_is T (PlainGiveUp o c) after l = refl
scope_is T (PlainAgain o c) after l = refl
scope_is T PlainNewCondition after l = sym (no_scope T PlainNewCondition after refl l)
scope_is T (PlainSetMethod o x m) after l = sym (no_scope T (PlainSetMethod o x m) after refl l)
scope_is T (PlainCloning flags fields (o ∷ rest)) after l = sym (no_scope T (PlainCloning flags fields (o ∷ rest)) after refl l)
scope_is T (PlainCloning (Some flags) fields []) after l = sym (no_scope T (PlainCloning (Some flags) fields []) after refl l)
scope_is T (PlainCloning None fields []) after l = sym (no_scope T (PlainCloning None fields []) after refl l)
scope_is T (PlainForkOff f) after l = sym (no_scope T (PlainForkOff f) after refl l)
scope_is T (PlainRunEngine e f) after l = sym (no_scope T (PlainRunEngine e f) after refl l)
scope_is T (PlainExport x namer u) after l = sym (no_scope T (PlainExport x namer u) after refl l)
scope_is T (PlainImport x namer engine) after l = sym (no_scope T (PlainImport x namer engine) after refl l)
scope_is T (PlainNewEngine x namer u) after l = sym (no_scope T (PlainNewEngine x namer u) after refl l)
scope_is T (PlainLeave o u) after l = sym (no_scope T (PlainLeave o u) after refl l)
scope_is T (PlainSetVariable r u) after l = sym (no_scope T (PlainSetVariable r u) after refl l)
scope_is T (PlainSetItem r i u) after l = sym (no_scope T (PlainSetItem r i u) after refl l)
scope_is T (PlainSetValue o x u) after l = sym (no_scope T (PlainSetValue o x u) after refl l)
scope_is T (PlainSetAlias o x q y) after l = sym (no_scope T (PlainSetAlias o x q y) after refl l)
scope_is T (PlainRedirect o q) after l = sym (no_scope T (PlainRedirect o q) after refl l)
scope_is T (PlainSignal x) after l = sym (no_scope T (PlainSignal x) after refl l)
scope_is T (PlainBroadcast x) after l = sym (no_scope T (PlainBroadcast x) after refl l)
scope_is T (PlainJoin t) after l = sym (no_scope T (PlainJoin t) after refl l)
scope_is T (PlainNewVariable u) after l = refl

same_kind : {R : Type 0} → (T : Table R) (op p : PlainOperation R) (after : TreeAfter R) → kind_of p ≡ kind_of op → CompleteAfter T op after → CompleteAfter T p after
same_kind T op p TreeHere e l = e ∙ l
same_kind T op p (TreeUnder q x bs is) e l = (l.0, e ∙ l.1)
same_kind T op p (TreeScope q x b) e l = (l.0, e ∙ l.1)
same_kind T op p (TreeTest q x) e l = (l.0, e ∙ l.1)

-- what an answer makes of the two windows
pub record Answered {R : Type 0} (T : Table R) (S : Store R) (m : NodeMoved R) (t : TreeMoved R) (u : Term R) : Type 0 where
  pub same : Same T S m t
  pub complete : CompleteMoved T t
  pub term : term_of T t.frames t.focus ≡ u

-- a new variable goes under its name
variable_answered : {R : Type 0} → (T : Table R) (S : Store R) → Agrees T S → (act : Activation R) (b : ℕ) (ns : List (NodeFrame R)) (fs : List (TreeFrame R)) → FramesAre T S act b ns fs → CompleteFrames T fs → (u : PlainValue R) (na : NodeAfter) (after : TreeAfter R) → AfterIs T S act b na after → CompleteAfter T (PlainNewVariable u) after
    → (v : PlainValue R) → IsComplete T v → Answered T S (value_at_node S (PlainNewVariable u) na v act ns) (value_at_tree (PlainNewVariable u) after v fs) (plug (frames_of T fs) (enter (read_value T v ∷ []) (scope_after T after)))
variable_answered {R} T S g act b ns fs fr k u na TreeHere h l v c = absurd (true≢false (ap has_no_scope (sym l)))
variable_answered {R} T S g act b ns fs fr k u na (TreeUnder p x bs is) h l v c =
    subst (λ (z : NodeAfter). Answered T S (value_at_node S (PlainNewVariable u) z v act ns) (begin_vars Silent (with_bound p (bind_of x v ∷ [])) bs is fs) (plug (frames_of T fs) (enter (read_value T v ∷ []) (vars_at T p x bs is)))) (sym h.2)
    (record {
      same = subst (λ (z : Place R). Same T S (vars_node S Silent (bind act b (v ∷ [])) ns h.0 (count_binds bs) h.1 (count_items is) (suc b)) (begin_vars Silent (with_bound z (bind_of x v ∷ [])) bs is fs)) (sym h.3.1)
          (var_alike T S g act b h.3.0 h.3.2 ns fs fr h.0 h.1 x bs is v
          (subst (λ (z : Place R). StandsAt T S z.code (draft_binds (outside_at T z) (names_at z ++ x ∷ []) bs) h.0) h.3.1 h.4) (subst (λ (z : Place R). StandsAt T S z.code (draft_items (outside_at T z) ((names_at z ++ x ∷ []) ++ bind_names bs) is) h.1) h.3.1 h.5));
      complete = vars_kept T Silent (with_bound p (bind_of x v ∷ [])) bs is fs (place_more T p (bind_of x v ∷ []) l.0 (c, tt)) k;
      term = sym (whole T fs _ _ _ (vars_start T fs Silent (with_bound p (bind_of x v ∷ [])) bs is).leads) ∙ ap (plug (frames_of T fs)) (sym (var_given T p x v bs is));
    })
variable_answered {R} T S g act b ns fs fr k u na (TreeScope p x block) h l v c = absurd (true≢false (ap has_a_name l.1))
variable_answered {R} T S g act b ns fs fr k u na (TreeTest p e) h l v c = absurd (true≢false (ap has_a_name l.1))

-- an item goes under the name of its `foreach`
item_answered : {R : Type 0} → (T : Table R) (S : Store R) → Agrees T S → (act : Activation R) (b : ℕ) (ns : List (NodeFrame R)) (fs : List (TreeFrame R)) → FramesAre T S act b ns fs → CompleteFrames T fs → (r : R) (i n : ℕ) (na : NodeAfter) (after : TreeAfter R) → AfterIs T S act b na after → CompleteAfter T (PlainEachItem r i n) after
    → (v : PlainValue R) → IsComplete T v → Answered T S (value_at_node S (PlainEachItem r i n) na v act ns) (value_at_tree (PlainEachItem r i n) after v fs) (plug (frames_of T fs) (Form (EachIn r i n) (Part (enter (read_value T v ∷ []) (scope_after T after)) (Part (scope_after T after) End))))
item_answered T S g act b ns fs fr k r i n na TreeHere h l v c = absurd (true≢false (ap has_no_scope (sym l)))
item_answered T S g act b ns fs fr k r i n na (TreeUnder p x bs is) h l v c = absurd (true≢false (ap has_a_name (sym l.1)))
item_answered T S g act b ns fs fr k r i n na (TreeTest p e) h l v c = absurd (true≢false (ap has_a_guard (sym l.1)))
item_answered {R} T S g act b ns fs fr k r i n na (TreeScope p x block) h l v c =
    subst (λ (z : NodeAfter). Answered T S (value_at_node S (PlainEachItem r i n) z v act ns) (tree_moved Silent (push p (PendingEach r i n x block) fs) (TreeRun (with_bound p (bind_of x v ∷ [])) (BlockTask block))) (plug (frames_of T fs) (Form (EachIn r i n) (Part (enter (read_value T v ∷ []) (scope_at T p x block)) (Part (scope_at T p x block) End))))) (sym h.1)
    (record {
      same = subst (λ (z : Place R). Same T S (node_moved Silent (bind act b (v ∷ [])) (NodeEach r i n h.0 b ∷ ns) (NodeRun h.0 (suc b))) (tree_moved Silent (push z (PendingEach r i n x block) fs) (TreeRun (with_bound z (bind_of x v ∷ [])) (BlockTask block)))) (sym h.2.1)
          (item_alike T S act b h.2.0 h.2.2 ns fs fr h.0 x block r i n v (subst (λ (z : Place R). StandsAt T S z.code (draft_block (outside_at T z) (names_at z ++ x ∷ []) block) h.0) h.2.1 h.3));
      complete = record { frames = (l.0, tt, k); focus = place_more T p (bind_of x v ∷ []) l.0 (c, tt) };
      term = plug_append (frames_of T fs) (pending_frames T p (PendingEach r i n x block)) _ ∙ ap (λ (u : Term R). plug (frames_of T fs) (Form (EachIn r i n) (Part u (Part (scope_at T p x block) End)))) (sym (block_entered T p x v block));
    })

value_answered : {R : Type 0} → (T : Table R) (S : Store R) → Agrees T S → (act : Activation R) (b : ℕ) (ns : List (NodeFrame R)) (fs : List (TreeFrame R)) → FramesAre T S act b ns fs → CompleteFrames T fs → (op : PlainOperation R) (na : NodeAfter) (after : TreeAfter R) → AfterIs T S act b na after → CompleteAfter T op after
    → (v : PlainValue R) → IsComplete T v → Answered T S (value_at_node S op na v act ns) (value_at_tree op after v fs) (plug (frames_of T fs) (left_by T (read_operation T op (scope_after T after)) (AnswerValue v)))
value_answered {R} T S g act b ns fs fr k (PlainGet o x) na after h l v c = record { same = record { tag = refl; makes = refl; height = b; frames = fr; focus = refl }; complete = record { frames = k; focus = c }; term = refl }
value_answered {R} T S g act b ns fs fr k (PlainRead r) na after h l v c = record { same = record { tag = refl; makes = refl; height = b; frames = fr; focus = refl }; complete = record { frames = k; focus = c }; term = refl }
value_answered {R} T S g act b ns fs fr k (PlainWrite x t) na after h l v c = record { same = record { tag = refl; makes = refl; height = b; frames = fr; focus = refl }; complete = record { frames = k; focus = c }; term = refl }
value_answered {R} T S g act b ns fs fr k (PlainInvoke o x vs) na after h l v c = record { same = record { tag = refl; makes = refl; height = b; frames = fr; focus = refl }; complete = record { frames = k; focus = c }; term = refl }
value_answered {R} T S g act b ns fs fr k (PlainItemOf r i) na after h l v c = record { same = record { tag = refl; makes = refl; height = b; frames = fr; focus = refl }; complete = record { frames = k; focus = c }; term = refl }
value_answered {R} T S g act b ns fs fr k (PlainSize r) na after h l v c = record { same = record { tag = refl; makes = refl; height = b; frames = fr; focus = refl }; complete = record { frames = k; focus = c }; term = refl }
value_answered {R} T S g act b ns fs fr k (PlainNewArray vs) na after h l v c = record { same = record { tag = refl; makes = refl; height = b; frames = fr; focus = refl }; complete = record { frames = k; focus = c }; term = refl }
value_answered {R} T S g act b ns fs fr k PlainNewCondition na after h l v c = record { same = record { tag = refl; makes = refl; height = b; frames = fr; focus = refl }; complete = record { frames = k; focus = c }; term = refl }
value_answered {R} T S g act b ns fs fr k (PlainSetMethod o x m) na after h l v c = record { same = record { tag = refl; makes = refl; height = b; frames = fr; focus = refl }; complete = record { frames = k; focus = c }; term = refl }
value_answered {R} T S g act b ns fs fr k (PlainCloning flags fields (o ∷ rest)) na after h l v c = record { same = record { tag = refl; makes = refl; height = b; frames = fr; focus = refl }; complete = record { frames = k; focus = c }; term = refl }
value_answered {R} T S g act b ns fs fr k (PlainCloning (Some flags) fields []) na after h l v c = record { same = record { tag = refl; makes = refl; height = b; frames = fr; focus = refl }; complete = record { frames = k; focus = c }; term = refl }
value_answered {R} T S g act b ns fs fr k (PlainCloning None fields []) na after h l v c = record { same = record { tag = refl; makes = refl; height = b; frames = fr; focus = refl }; complete = record { frames = k; focus = c }; term = refl }
value_answered {R} T S g act b ns fs fr k (PlainLineUp o d) na after h l v c = record { same = record { tag = refl; makes = refl; height = b; frames = fr; focus = refl }; complete = record { frames = k; focus = c }; term = refl }
value_answered {R} T S g act b ns fs fr k (PlainGiveUp o d) na after h l v c = record { same = record { tag = refl; makes = refl; height = b; frames = fr; focus = refl }; complete = record { frames = k; focus = c }; term = refl }
value_answered {R} T S g act b ns fs fr k (PlainAgain o d) na after h l v c = record { same = record { tag = refl; makes = refl; height = b; frames = fr; focus = refl }; complete = record { frames = k; focus = c }; term = refl }
value_answered {R} T S g act b ns fs fr k (PlainEachSize r) na after h l v c = record { same = record { tag = refl; makes = refl; height = b; frames = fr; focus = refl }; complete = record { frames = k; focus = c }; term = refl }
value_answered T S g act b ns fs fr k (PlainEachItem r i n) na after h l v c = item_answered T S g act b ns fs fr k r i n na after h l v c
value_answered {R} T S g act b ns fs fr k (PlainForkOff f) na after h l v c = record { same = record { tag = refl; makes = refl; height = b; frames = fr; focus = refl }; complete = record { frames = k; focus = c }; term = refl }
value_answered {R} T S g act b ns fs fr k (PlainRunEngine e f) na after h l v c = record { same = record { tag = refl; makes = refl; height = b; frames = fr; focus = refl }; complete = record { frames = k; focus = c }; term = refl }
value_answered {R} T S g act b ns fs fr k (PlainExport x namer u) na after h l v c = record { same = record { tag = refl; makes = refl; height = b; frames = fr; focus = refl }; complete = record { frames = k; focus = c }; term = refl }
value_answered {R} T S g act b ns fs fr k (PlainImport x namer engine) na after h l v c = record { same = record { tag = refl; makes = refl; height = b; frames = fr; focus = refl }; complete = record { frames = k; focus = c }; term = refl }
value_answered {R} T S g act b ns fs fr k (PlainNewEngine x namer u) na after h l v c = record { same = record { tag = refl; makes = refl; height = b; frames = fr; focus = refl }; complete = record { frames = k; focus = c }; term = refl }
value_answered {R} T S g act b ns fs fr k (PlainLeave o u) na after h l v c = record { same = record { tag = refl; makes = refl; height = b; frames = fr; focus = refl }; complete = record { frames = k; focus = c }; term = refl }
value_answered {R} T S g act b ns fs fr k (PlainSetVariable r u) na after h l v c = record { same = record { tag = refl; makes = refl; height = b; frames = fr; focus = refl }; complete = record { frames = k; focus = c }; term = refl }
value_answered {R} T S g act b ns fs fr k (PlainSetItem r i u) na after h l v c = record { same = record { tag = refl; makes = refl; height = b; frames = fr; focus = refl }; complete = record { frames = k; focus = c }; term = refl }
value_answered {R} T S g act b ns fs fr k (PlainSetValue o x u) na after h l v c = record { same = record { tag = refl; makes = refl; height = b; frames = fr; focus = refl }; complete = record { frames = k; focus = c }; term = refl }
value_answered {R} T S g act b ns fs fr k (PlainSetAlias o x q y) na after h l v c = record { same = record { tag = refl; makes = refl; height = b; frames = fr; focus = refl }; complete = record { frames = k; focus = c }; term = refl }
value_answered {R} T S g act b ns fs fr k (PlainRedirect o q) na after h l v c = record { same = record { tag = refl; makes = refl; height = b; frames = fr; focus = refl }; complete = record { frames = k; focus = c }; term = refl }
value_answered {R} T S g act b ns fs fr k (PlainSignal x) na after h l v c = record { same = record { tag = refl; makes = refl; height = b; frames = fr; focus = refl }; complete = record { frames = k; focus = c }; term = refl }
value_answered {R} T S g act b ns fs fr k (PlainBroadcast x) na after h l v c = record { same = record { tag = refl; makes = refl; height = b; frames = fr; focus = refl }; complete = record { frames = k; focus = c }; term = refl }
value_answered {R} T S g act b ns fs fr k (PlainJoin t) na after h l v c = record { same = record { tag = refl; makes = refl; height = b; frames = fr; focus = refl }; complete = record { frames = k; focus = c }; term = refl }
value_answered T S g act b ns fs fr k (PlainNewVariable u) na after h l v c = variable_answered T S g act b ns fs fr k u na after h l v c

-- a watch that has taken the mutex again
again_answered : {R : Type 0} → (T : Table R) (S : Store R) (act : Activation R) (b : ℕ) (ns : List (NodeFrame R)) (fs : List (TreeFrame R)) → FramesAre T S act b ns fs → CompleteFrames T fs → (o c : R) (na : NodeAfter) (after : TreeAfter R) → AfterIs T S act b na after → CompleteAfter T (PlainAgain o c) after
    → Answered T S (test_at_node (PlainAgain o c) na act ns) (test_at_tree (PlainAgain o c) after fs) (plug (frames_of T fs) (testing o c (scope_after T after)))
again_answered T S act b ns fs fr k o c na TreeHere h l = absurd (true≢false (ap has_no_scope (sym l)))
again_answered T S act b ns fs fr k o c na (TreeUnder p x bs is) h l = absurd (true≢false (ap has_a_name (sym l.1)))
again_answered T S act b ns fs fr k o c na (TreeScope p x block) h l = absurd (true≢false (ap has_a_guard l.1))
again_answered {R} T S act b ns fs fr k o c na (TreeTest p e) h l =
    subst (λ (z : NodeAfter). Answered T S (test_at_node (PlainAgain o c) z act ns) (tree_moved Silent (push p (PendingTesting o c e) fs) (TreeRun p (ExprTask e))) (plug (frames_of T fs) (testing o c (expr_at T p e)))) (sym h.1)
    (record {
      same = record { tag = refl; makes = refl; height = b; frames = (NodeTesting o c h.0 b, ns, refl, (h.0, b, refl, not_above b, h.2, h.3), fr); focus = (h.0, refl, h.2, h.3) };
      complete = record { frames = (l.0, tt, k); focus = l.0 };
      term = plug_append (frames_of T fs) (pending_frames T p (PendingTesting o c e)) (expr_at T p e);
    })

test_answered : {R : Type 0} → (T : Table R) (S : Store R) (act : Activation R) (b : ℕ) (ns : List (NodeFrame R)) (fs : List (TreeFrame R)) → FramesAre T S act b ns fs → CompleteFrames T fs → (op : PlainOperation R) (na : NodeAfter) (after : TreeAfter R) → AfterIs T S act b na after → CompleteAfter T op after
    → Answered T S (test_at_node op na act ns) (test_at_tree op after fs) (plug (frames_of T fs) (left_by T (read_operation T op (scope_after T after)) AnswerTest))
test_answered T S act b ns fs fr k (PlainAgain o d) na after h l = again_answered T S act b ns fs fr k o d na after h l
test_answered T S act b ns fs fr k (PlainGet o x) na after h l = record { same = record { tag = refl; makes = refl; height = b; frames = fr; focus = refl }; complete = record { frames = k; focus = tt }; term = refl }
test_answered T S act b ns fs fr k (PlainRead r) na after h l = record { same = record { tag = refl; makes = refl; height = b; frames = fr; focus = refl }; complete = record { frames = k; focus = tt }; term = refl }
test_answered T S act b ns fs fr k (PlainWrite x t) na after h l = record { same = record { tag = refl; makes = refl; height = b; frames = fr; focus = refl }; complete = record { frames = k; focus = tt }; term = refl }
test_answered T S act b ns fs fr k (PlainInvoke o x vs) na after h l = record { same = record { tag = refl; makes = refl; height = b; frames = fr; focus = refl }; complete = record { frames = k; focus = tt }; term = refl }
test_answered T S act b ns fs fr k (PlainItemOf r i) na after h l = record { same = record { tag = refl; makes = refl; height = b; frames = fr; focus = refl }; complete = record { frames = k; focus = tt }; term = refl }
test_answered T S act b ns fs fr k (PlainSize r) na after h l = record { same = record { tag = refl; makes = refl; height = b; frames = fr; focus = refl }; complete = record { frames = k; focus = tt }; term = refl }
test_answered T S act b ns fs fr k (PlainNewArray vs) na after h l = record { same = record { tag = refl; makes = refl; height = b; frames = fr; focus = refl }; complete = record { frames = k; focus = tt }; term = refl }
test_answered T S act b ns fs fr k PlainNewCondition na after h l = record { same = record { tag = refl; makes = refl; height = b; frames = fr; focus = refl }; complete = record { frames = k; focus = tt }; term = refl }
test_answered T S act b ns fs fr k (PlainSetMethod o x m) na after h l = record { same = record { tag = refl; makes = refl; height = b; frames = fr; focus = refl }; complete = record { frames = k; focus = tt }; term = refl }
test_answered T S act b ns fs fr k (PlainCloning flags fields (o ∷ rest)) na after h l = record { same = record { tag = refl; makes = refl; height = b; frames = fr; focus = refl }; complete = record { frames = k; focus = tt }; term = refl }
test_answered T S act b ns fs fr k (PlainCloning (Some flags) fields []) na after h l = record { same = record { tag = refl; makes = refl; height = b; frames = fr; focus = refl }; complete = record { frames = k; focus = tt }; term = refl }
test_answered T S act b ns fs fr k (PlainCloning None fields []) na after h l = record { same = record { tag = refl; makes = refl; height = b; frames = fr; focus = refl }; complete = record { frames = k; focus = tt }; term = refl }
test_answered T S act b ns fs fr k (PlainLineUp o d) na after h l = record { same = record { tag = refl; makes = refl; height = b; frames = fr; focus = refl }; complete = record { frames = k; focus = tt }; term = refl }
test_answered T S act b ns fs fr k (PlainGiveUp o d) na after h l = record { same = record { tag = refl; makes = refl; height = b; frames = fr; focus = refl }; complete = record { frames = k; focus = tt }; term = refl }
test_answered T S act b ns fs fr k (PlainEachSize r) na after h l = record { same = record { tag = refl; makes = refl; height = b; frames = fr; focus = refl }; complete = record { frames = k; focus = tt }; term = refl }
test_answered T S act b ns fs fr k (PlainEachItem r i n) na after h l = record { same = record { tag = refl; makes = refl; height = b; frames = fr; focus = refl }; complete = record { frames = k; focus = tt }; term = refl }
test_answered T S act b ns fs fr k (PlainForkOff f) na after h l = record { same = record { tag = refl; makes = refl; height = b; frames = fr; focus = refl }; complete = record { frames = k; focus = tt }; term = refl }
test_answered T S act b ns fs fr k (PlainRunEngine e f) na after h l = record { same = record { tag = refl; makes = refl; height = b; frames = fr; focus = refl }; complete = record { frames = k; focus = tt }; term = refl }
test_answered T S act b ns fs fr k (PlainExport x namer u) na after h l = record { same = record { tag = refl; makes = refl; height = b; frames = fr; focus = refl }; complete = record { frames = k; focus = tt }; term = refl }
test_answered T S act b ns fs fr k (PlainImport x namer engine) na after h l = record { same = record { tag = refl; makes = refl; height = b; frames = fr; focus = refl }; complete = record { frames = k; focus = tt }; term = refl }
test_answered T S act b ns fs fr k (PlainNewEngine x namer u) na after h l = record { same = record { tag = refl; makes = refl; height = b; frames = fr; focus = refl }; complete = record { frames = k; focus = tt }; term = refl }
test_answered T S act b ns fs fr k (PlainLeave o u) na after h l = record { same = record { tag = refl; makes = refl; height = b; frames = fr; focus = refl }; complete = record { frames = k; focus = tt }; term = refl }
test_answered T S act b ns fs fr k (PlainSetVariable r u) na after h l = record { same = record { tag = refl; makes = refl; height = b; frames = fr; focus = refl }; complete = record { frames = k; focus = tt }; term = refl }
test_answered T S act b ns fs fr k (PlainSetItem r i u) na after h l = record { same = record { tag = refl; makes = refl; height = b; frames = fr; focus = refl }; complete = record { frames = k; focus = tt }; term = refl }
test_answered T S act b ns fs fr k (PlainSetValue o x u) na after h l = record { same = record { tag = refl; makes = refl; height = b; frames = fr; focus = refl }; complete = record { frames = k; focus = tt }; term = refl }
test_answered T S act b ns fs fr k (PlainSetAlias o x q y) na after h l = record { same = record { tag = refl; makes = refl; height = b; frames = fr; focus = refl }; complete = record { frames = k; focus = tt }; term = refl }
test_answered T S act b ns fs fr k (PlainRedirect o q) na after h l = record { same = record { tag = refl; makes = refl; height = b; frames = fr; focus = refl }; complete = record { frames = k; focus = tt }; term = refl }
test_answered T S act b ns fs fr k (PlainSignal x) na after h l = record { same = record { tag = refl; makes = refl; height = b; frames = fr; focus = refl }; complete = record { frames = k; focus = tt }; term = refl }
test_answered T S act b ns fs fr k (PlainBroadcast x) na after h l = record { same = record { tag = refl; makes = refl; height = b; frames = fr; focus = refl }; complete = record { frames = k; focus = tt }; term = refl }
test_answered T S act b ns fs fr k (PlainJoin t) na after h l = record { same = record { tag = refl; makes = refl; height = b; frames = fr; focus = refl }; complete = record { frames = k; focus = tt }; term = refl }
test_answered T S act b ns fs fr k (PlainNewVariable u) na after h l = record { same = record { tag = refl; makes = refl; height = b; frames = fr; focus = refl }; complete = record { frames = k; focus = tt }; term = refl }

-- what stands around a body that is entered
pub record Caller {R : Type 0} (T : Table R) (S : Store R) (act : Activation R) (f : NodeFrame R) (pending : PendingForm R) : Type 0 where
  pub is_frame : (z : Activation R) (b : ℕ) (p : Place R) → FrameIs T S z b f p pending
  pub back : (z : Activation R) → act_behind z f ≡ act
  pub low : (b : ℕ) → height_behind b f ≡ length act.locals
  pub complete : CompletePending T pending
  pub same_frames : (p q : Place R) → pending_frames T p pending ≡ pending_frames T q pending

pub entered_answer : {R : Type 0} → (T : Table R) (S : Store R) → Agrees T S → (act : Activation R) (b : ℕ) (ns : List (NodeFrame R)) (fs : List (TreeFrame R)) → FramesAre T S act b ns fs → CompleteFrames T fs → (f : NodeFrame R) (pending : PendingForm R) → Caller T S act f pending → (around : Place R)
    → (m : PlainValue R) (vs : List (PlainValue R)) → IsComplete T m → AllComplete T vs → Takes T m vs
    → Answered T S (enter_node_value f m vs act ns) (enter_tree_value T pending m vs fs) (plug (frames_of T fs) (plug (pending_frames T around pending) (body_with (read_value T m) (read_all T vs))))
entered_answer {R} T S g act b ns fs fr k f pending caller around (ClosureValue origin count group index cs) vs c d t = by_code (slice_get group index) c.0 t where
  by_store : (number : CodeNo) (o : Option Proc) → T.procs number ≡ o → (z : Option Code) → S.code number ≡ z → IsCodeAt T.procs number z → Knows group cs o → HasParameters o (length vs)
      → Answered T S (node_changed Enters (node_moved Silent (activation_of number origin count group cs vs) (f ∷ ns) (NodeRun 0 (length vs)))) (enter_tree pending origin count group number cs o vs fs) (plug (frames_of T fs) (plug (pending_frames T around pending) (body_with (closure_of T (read_values T cs) o) (read_all T vs))))
  by_store number None e z ce ic kn l = absurd kn
  by_store number (Some q) e None ce ic kn l = absurd (true≢false (ap is_some (sym e ∙ ic)))
  by_store number (Some q) e (Some code) ce (q2, ic) kn l =
      let same : q2 ≡ q = ap (λ (o : Option Proc). unwrap_or o q) (sym ic.proc_is ∙ e) in
      record {
        same = record {
          tag = refl;
          makes = refl;
          height = length vs;
          frames = (
            f,
            ns,
            refl,
            caller.is_frame _ _ _,
            subst (λ (z : Activation R). FramesAre T S z (height_behind (length vs) f) ns fs) (sym (caller.back _)) (subst (λ (n : ℕ). FramesAre T S act n ns fs) (sym (caller.low _)) (frames_full T S act b ns fs fr)),
          );
          focus = at_entry T S origin count group number cs vs code q ce (subst (λ (z : Proc). IsNumbered T.procs number code z) same ic) l;
        };
        complete = record {
          frames = (place_complete number q e kn, caller.complete, k);
          focus = place_complete number q e kn;
        };
        term =
            plug_append (frames_of T fs) (pending_frames T (place_of number origin count group cs (zipped q.params vs)) pending) _
            ∙ ap (λ (gs : List (Frame R)). plug (frames_of T fs) (plug gs (block_at T (place_of number origin count group cs (zipped q.params vs)) q.body))) (caller.same_frames (place_of number origin count group cs (zipped q.params vs)) around)
            ∙ ap (λ (u : Term R). plug (frames_of T fs) (plug (pending_frames T around pending) u)) (sym (body_right T origin count group number cs q vs (made_of T S g) e l q.group refl));
      } where
        place_complete : (number : CodeNo) (q : Proc) → T.procs number ≡ Some q → Knows group cs (Some q) → CompletePlace T (place_of number origin count group cs (zipped q.params vs))
        place_complete number q e kn = record { known = subst (λ (o : Option Proc). Knows group cs o) (sym e) kn; captured = c.1; depth = c.2; bound = zipped_complete T q.params vs d }

  by_code : (o : Option CodeNo) → Knows group cs (proc_named T o) → HasParameters (proc_named T o) (length vs)
      → Answered T S (enter_node_code f origin count group o cs vs act ns) (enter_tree_code T pending origin count group o cs vs fs) (plug (frames_of T fs) (plug (pending_frames T around pending) (body_with (closure_of T (read_values T cs) (proc_named T o)) (read_all T vs))))
  by_code None kn l = absurd kn
  by_code (Some number) kn l = by_store number (T.procs number) refl (S.code number) refl (g.code number) kn l
entered_answer T S g act b ns fs fr k f pending caller around (IntValue z) vs c d t = absurd t
entered_answer T S g act b ns fs fr k f pending caller around (TruthValue z) vs c d t = absurd t
entered_answer T S g act b ns fs fr k f pending caller around OkayValue vs c d t = absurd t
entered_answer T S g act b ns fs fr k f pending caller around (TextValue z) vs c d t = absurd t
entered_answer T S g act b ns fs fr k f pending caller around (ExceptionValue z) vs c d t = absurd t
entered_answer T S g act b ns fs fr k f pending caller around (ThreadValue z) vs c d t = absurd t
entered_answer T S g act b ns fs fr k f pending caller around (LocationValue z r) vs c d t = absurd t

answered : {R : Type 0} → (T : Table R) (S : Store R) → Agrees T S → (act : Activation R) (b : ℕ) (ns : List (NodeFrame R)) (fs : List (TreeFrame R)) → FramesAre T S act b ns fs → CompleteFrames T fs → (op : PlainOperation R) (na : NodeAfter) (after : TreeAfter R) → AfterIs T S act b na after → CompleteAfter T op after
    → (answer : PlainAnswer R) → CompleteAnswer T op answer → Answered T S (answer_node S op na answer act ns) (answer_tree T op after answer fs) (plug (frames_of T fs) (left_by T (read_operation T op (scope_after T after)) answer))
answered T S g act b ns fs fr k op na after h l (AnswerRaising r) c = record { same = record { tag = refl; makes = refl; height = b; frames = fr; focus = refl }; complete = record { frames = k; focus = tt }; term = refl }
answered T S g act b ns fs fr k op na after h l AnswerTest c = test_answered T S act b ns fs fr k op na after h l
answered T S g act b ns fs fr k op na after h l (AnswerForm p) c = record {
  same = record { tag = refl; makes = refl; height = b; frames = fr; focus = (na, refl, h) };
  complete = record { frames = k; focus = (c.0, same_kind T op p after c.1 l) };
  term = ap (λ (u : Term _). plug (frames_of T fs) (act_form T p u)) (sym (scope_is T op after l));
}
answered {R} T S g act b ns fs fr k op na after h l (AnswerMethod o m f vs) c =
    entered_answer T S g act b ns fs fr k (NodeWithin act o m) (PendingWithin o m) (record { is_frame = λ z n p. (act, refl); back = λ z. refl; low = λ n. refl; complete = tt; same_frames = λ p q. refl }) (place_of (record { source = 0; n = 0 }) no_origin 0 [] NoValues []) f (LocationValue Object o ∷ vs) c.0 (tt, c.1) c.2
answered {R} T S g act b ns fs fr k op na after h l (AnswerCalled f vs) c =
    entered_answer T S g act b ns fs fr k (NodeCalled act) PendingCalled (record { is_frame = λ z n p. (act, refl); back = λ z. refl; low = λ n. refl; complete = tt; same_frames = λ p q. refl }) (place_of (record { source = 0; n = 0 }) no_origin 0 [] NoValues []) f vs c.0 c.1 c.2
answered T S g act b ns fs fr k op na after h l (AnswerValue v) c = value_answered T S g act b ns fs fr k op na after h l v c

pub answers_read : {R : Type 0} → AnswersRead R
answers_read {R} eq T S g a s act ns op na t r o around e answer c =
    let at : AtAct T S act r.height op na r.focus = at_act T S act r.height op na r.focus r.is_focus in
    let l : CompleteOperation T op × CompleteAfter T op at.after = subst (λ (z : TreeFocus R). CompleteFocus T z) at.is_act r.complete.focus in
    let asked : Asked T r.frames op at.after o around = act_asks eq T (made_of T S g) a s r.frames op at.after o around (sym (ap (find eq a s) (r.term ∙ ap (term_of T r.frames) at.is_act)) ∙ e) in
    let m : Answered T S (answer_node S op na answer act ns) (answer_tree T op at.after answer r.frames) (plug (frames_of T r.frames) (left_by T (read_operation T op (scope_after T at.after)) answer)) =
    answered T S g act r.height ns r.frames r.are_frames r.complete.frames op na at.after at.is_after l.1 answer c in
    record {
      frames = (answer_tree T op at.after answer r.frames).frames;
      focus = (answer_tree T op at.after answer r.frames).focus;
      height = m.same.height;
      are_frames = m.same.frames;
      is_focus = m.same.focus;
      complete = record { frames = m.complete.frames; focus = m.complete.focus };
      term = ap (λ (z : List (Frame R)). plug z (left_by T o answer)) asked.frames ∙ ap (λ (z : Operation R). plug (frames_of T r.frames) (left_by T z answer)) asked.operation ∙ sym m.term;
    }

pub self_is_own : {R : Type 0} → SelfIsOwn R
self_is_own {R} eq T S g a s act ns op na t r o around e =
    let at : AtAct T S act r.height op na r.focus = at_act T S act r.height op na r.focus r.is_focus in
    let asked : Asked T r.frames op at.after o around = act_asks eq T (made_of T S g) a s r.frames op at.after o around (sym (ap (find eq a s) (r.term ∙ ap (term_of T r.frames) at.is_act)) ∙ e) in
    ap (self_at s) asked.frames ∙ selfed T s r.frames ∙ sym (self_alike T S s act r.height ns r.frames r.are_frames)
