-- A window at an act's form that stands next in a term: the window's own term needs the same act.
use Rattle.std.specs.Prelude.{Bool, List, None, Option, Some, [], codes, if◌then◌else◌, length, nat_lt, option_map, refl, suc, ℕ, ◌∷◌, ◌≡◌}
use Rattle.std.proofs.Common.{ap, subst, sym, ◌∙◌}
use Rattle.std.proofs.lemmas.List.{append-nil}
use Rattle.obq_base.specs.declared.limits.TheConstants.{ARRAY_LIMIT}
use Rattle.obq_base.specs.Tree.{AnItem, NoItems}
use Rattle.obq_model.specs.Step.{Needs, Self, activations_at, find, self_at}
use Rattle.obq_model.specs.Store.{field_names, twice}
use Rattle.obq_model.specs.Terms.{Exn, Term}
use Rattle.obq_model.proofs.Plug.{needs_plug}
use Rattle.obq_answers.proofs.Allowed.{IsAllowed}
use Rattle.obq_windows.specs.Agrees.{FrameIs, FramesAre, act_behind, height_behind}
use Rattle.obq_windows.specs.Complete.{CompleteOperation}
use Rattle.obq_windows.specs.Moves.{act_ends, count_activations, is_activation, tree_refused, with_a_parameter, without_parameter}
use Rattle.obq_windows.specs.Places.{Place}
use Rattle.obq_windows.specs.Trees.{Kept, KeptRaising, KeptValue, PendingArguments, PendingAssign, PendingCalled, PendingChain, PendingCount, PendingEach, PendingField, PendingFirst, PendingForeach, PendingForm, PendingGuard, PendingHead, PendingIf, PendingKept, PendingLast, PendingLet, PendingLoop, PendingObject, PendingRaise, PendingRight, PendingTesting, PendingThen, PendingTo, PendingTry, PendingVar, PendingWatch, PendingWithin, PlainAgain, PlainBroadcast, PlainCloning, PlainEachItem, PlainEachSize, PlainExport, PlainField, PlainForkOff, PlainGet, PlainGiveUp, PlainImport, PlainInvoke, PlainItemOf, PlainJoin, PlainLeave, PlainLineUp, PlainNewArray, PlainNewCondition, PlainNewEngine, PlainNewVariable, PlainOperation, PlainRead, PlainRedirect, PlainRunEngine, PlainSetAlias, PlainSetItem, PlainSetMethod, PlainSetValue, PlainSetVariable, PlainSignal, PlainSize, PlainWrite, TreeAct, TreeAfter, TreeFrame, act_form, frames_of, plain_names, read_fields, read_operation, scope_after, term_of}
use Rattle.obq_windows.specs.Values.{IsMadeTable, OkayValue, Table, tree_params}
use Rattle.obq_windows.specs.Windows.{Activation, NodeFrame, Store, count_node_activations, is_called}
use Rattle.obq_windows.proofs.Acts.{ActIs, act_is}
use Rattle.obq_windows.proofs.Around.{are_frames}
use Rattle.obq_windows.proofs.Calls.{length_read, value_params}
use Rattle.obq_windows.proofs.Counts.{counted}

-- no clone of no objects: such a form raises `type` in a pure step
abbrev pub IsAsked : {R : Type 0} → PlainOperation R → Type 0
IsAsked (PlainCloning None fields []) = ⊥
IsAsked op = Unit {0}

names_read : {R : Type 0} → (T : Table R) (fields : List (PlainField R)) → field_names (read_fields T fields) ≡ plain_names fields
names_read T [] = refl
names_read T (f ∷ fs) = ap (λ l. f.name ∷ l) (names_read T fs)

-- what isn't refused doesn't end in another way
pub goes_on : {R : Type 0} → (T : Table R) → IsMadeTable T → (a : ℕ) (op : PlainOperation R) (scope : Term R) → CompleteOperation T op → IsAsked op → IsAllowed a (read_operation T op scope) → act_ends (tree_params T) (tree_refused T) a op ≡ None
goes_on T w a (PlainInvoke o x vs) scope c k h = ap (λ (b : Bool). if b then Some (KeptRaising (Exn (codes "call_limit"))) else None) h
goes_on T w a (PlainNewArray vs) scope c k h = ap (λ (b : Bool). if b then Some (KeptRaising (Exn (codes "array_limit"))) else None) (sym (ap (nat_lt ARRAY_LIMIT) (length_read T vs)) ∙ h)
goes_on T w a (PlainForkOff f) scope c k h = ap without_parameter (sym (value_params T w f) ∙ ap (option_map length) h)
goes_on T w a (PlainRunEngine e f) scope c k h =
    ap (λ (b : Bool). if b then Some (KeptRaising (Exn (codes "call_limit"))) else with_a_parameter (tree_params T f)) h.0 ∙ ap with_a_parameter (sym (value_params T w f) ∙ h.1)
goes_on T w a (PlainEachItem r i n) scope c k h = ap (λ (b : Bool). if b then Some (KeptValue OkayValue) else None) h
goes_on T w a (PlainCloning None fields []) scope c k h = absurd k
goes_on T w a (PlainCloning (Some flags) fields []) scope c k h = ap (λ (b : Bool). if b then Some (KeptRaising (Exn (codes "field_twice"))) else None) (sym (ap twice (names_read T fields)) ∙ h)
goes_on T w a (PlainCloning None fields (o ∷ rest)) scope c k h = refl
goes_on T w a (PlainCloning (Some flags) fields (o ∷ rest)) scope c k h = refl
goes_on T w a (PlainSetMethod o x m) scope c k h = c.1
goes_on T w a (PlainGet o x) scope c k h = refl
goes_on T w a (PlainRead r) scope c k h = refl
goes_on T w a (PlainWrite r t) scope c k h = refl
goes_on T w a (PlainItemOf r i) scope c k h = refl
goes_on T w a (PlainSize r) scope c k h = refl
goes_on T w a PlainNewCondition scope c k h = refl
goes_on T w a (PlainNewVariable v) scope c k h = refl
goes_on T w a (PlainSetVariable r v) scope c k h = refl
goes_on T w a (PlainSetItem r i v) scope c k h = refl
goes_on T w a (PlainSetValue o x v) scope c k h = refl
goes_on T w a (PlainSetAlias o x q y) scope c k h = refl
goes_on T w a (PlainRedirect o q) scope c k h = refl
goes_on T w a (PlainLeave o v) scope c k h = refl
goes_on T w a (PlainExport x namer v) scope c k h = refl
goes_on T w a (PlainImport x namer engine) scope c k h = refl
goes_on T w a (PlainNewEngine x namer v) scope c k h = refl
goes_on T w a (PlainEachSize r) scope c k h = refl
goes_on T w a (PlainLineUp o d) scope c k h = refl
goes_on T w a (PlainGiveUp o d) scope c k h = refl
goes_on T w a (PlainAgain o d) scope c k h = refl
goes_on T w a (PlainSignal d) scope c k h = refl
goes_on T w a (PlainBroadcast d) scope c k h = refl
goes_on T w a (PlainJoin t) scope c k h = refl

-- where an act's form doesn't end in another way, the window's term needs it
pub own_needs : {R : Type 0} → (eq : R → R → Bool) (T : Table R) → IsMadeTable T → (a : ℕ) (s : Self R) (fs : List (TreeFrame R)) (op : PlainOperation R) (after : TreeAfter R)
    → act_ends (tree_params T) (tree_refused T) (activations_at a (frames_of T fs)) op ≡ None → find eq a s (term_of T fs (TreeAct op after)) ≡ Needs (read_operation T op (scope_after T after)) (frames_of T fs)
own_needs {R} eq T w a s fs op after e =
    let n : ℕ = activations_at a (frames_of T fs) in
    let here : ActIs T op (scope_after T after) (find eq n (self_at s (frames_of T fs)) (act_form T op (scope_after T after))) None =
    subst (λ (k : Option (Kept R)). ActIs T op (scope_after T after) (find eq n (self_at s (frames_of T fs)) (act_form T op (scope_after T after))) k) e (act_is eq T w n (self_at s (frames_of T fs)) op (scope_after T after)) in
    needs_plug eq a s (frames_of T fs) (act_form T op (scope_after T after)) (read_operation T op (scope_after T after)) [] (are_frames T fs) here ∙ ap (Needs (read_operation T op (scope_after T after))) (append-nil (frames_of T fs))

-- ---- activations of the frames over nodes are those of the frames of the term

called_alike : {R : Type 0} → (T : Table R) (S : Store R) (act : Activation R) (b : ℕ) (f : NodeFrame R) (p : Place R) (pending : PendingForm R) → FrameIs T S act b f p pending → is_called f ≡ is_activation pending
called_alike T S act b f p (PendingThen NoItems) h = absurd h
called_alike T S act b f p (PendingThen (AnItem i is)) h = ap is_called h.2
called_alike T S act b f p (PendingLet x bs is) h = ap is_called h.3
called_alike T S act b f p (PendingObject flags done x other rest) h = ap is_called h.3
called_alike T S act b f p (PendingVar x bs is) h = ap is_called h.3
called_alike T S act b f p (PendingIf block arms last) h = ap is_called h.2
called_alike T S act b f p (PendingChain op e links) h = ap is_called h.4
called_alike T S act b f p (PendingRight v op) h = ap is_called h
called_alike T S act b f p (PendingHead x ss) h = ap is_called h.2
called_alike T S act b f p (PendingArguments callee done es) h = ap is_called h.2
called_alike T S act b f p PendingRaise h = ap is_called h
called_alike T S act b f p PendingCalled h = ap is_called h.1
called_alike T S act b f p (PendingWithin o m) h = ap is_called h.1
called_alike T S act b f p (PendingTry arms last) h = ap is_called h.2
called_alike T S act b f p (PendingGuard e block arms last) h = ap is_called h.2
called_alike T S act b f p (PendingLast block) h = ap is_called h.2
called_alike T S act b f p (PendingKept k) h = ap is_called h
called_alike T S act b f p (PendingAssign x) h = ap is_called h.1
called_alike T S act b f p (PendingLoop block) h = ap is_called h.2
called_alike T S act b f p (PendingTesting o c e) h = ap is_called h.2
called_alike T S act b f p (PendingWatch e) h = ap is_called h.2
called_alike T S act b f p (PendingField x body) h = ap is_called h.2
called_alike T S act b f p (PendingFirst x e block) h = ap is_called h.2
called_alike T S act b f p (PendingTo first x block) h = ap is_called h.2
called_alike T S act b f p (PendingCount i n x block) h = ap is_called h.2
called_alike T S act b f p (PendingEach r i n x block) h = ap is_called h.2
called_alike T S act b f p (PendingForeach x block) h = ap is_called h.2

count_alike : {R : Type 0} → (T : Table R) (S : Store R) (a : ℕ) (act : Activation R) (b : ℕ) (ns : List (NodeFrame R)) (fs : List (TreeFrame R)) → FramesAre T S act b ns fs → count_node_activations a ns ≡ count_activations a fs
count_alike T S a act b ns [] h = ap (count_node_activations a) h
count_alike T S a act b ns (t ∷ fs) h =
    ap (count_node_activations a) h.2 ∙ ap (λ (c : Bool). if c then suc (count_node_activations a h.1) else count_node_activations a h.1) (called_alike T S act b h.0 t.place t.pending h.3)
    ∙ ap (λ (m : ℕ). if is_activation t.pending then suc m else m) (count_alike T S a (act_behind act h.0) (height_behind b h.0) h.1 fs h.4)

pub counted_alike : {R : Type 0} → (T : Table R) (S : Store R) (a : ℕ) (act : Activation R) (b : ℕ) (ns : List (NodeFrame R)) (fs : List (TreeFrame R)) → FramesAre T S act b ns fs → count_node_activations a ns ≡ activations_at a (frames_of T fs)
counted_alike T S a act b ns fs h = count_alike T S a act b ns fs h ∙ sym (counted T a fs)
