-- An act's form that stands next.
use Rattle.std.specs.Prelude.{Bool, List, None, Option, Some, [], codes, false, if◌then◌else◌, is_some, length, nat_lt, option_map, refl, true, unwrap_or, ℕ, ◌==◌, ◌∷◌, ◌≡◌}
use Rattle.std.proofs.Common.{ap, subst, sym, ◌∙◌, true≢false}
use Rattle.std.proofs.lemmas.List.{append-nil}
use Rattle.obq_base.specs.declared.limits.TheConstants.{ARRAY_LIMIT}
use Rattle.obq_model.specs.Depth.{is_too_deep}
use Rattle.obq_model.specs.Exceptions.{arity, array_limit, call_limit, closure_limit, field_twice}
use Rattle.obq_model.specs.Step.{CallMethod, EachItem, Found, Frame, Itself, Needs, New, Next, Operation, RunEngine, Self, Set, activations_at, find, fork_of, is_call_limit, params_of, plug, self_at, with_one_parameter}
use Rattle.obq_model.specs.Store.{ArrayCell, ObjectCell, field_names, twice}
use Rattle.obq_model.specs.Terms.{Bytes, Closure, Const, End, Exc, Exn, Form, Int, Invoke, IsMethod, Loc, MakeArray, Member, Object, Okay, Part, SetMethod, Term, Text, Thread, Truth, Value}
use Rattle.obq_model.proofs.Plug.{needs_plug, operands, step_plug}
use Rattle.obq_windows.specs.Meanings.{Moves}
use Rattle.obq_windows.specs.Moves.{act_ends, count_activations, refused_method, tree_act, tree_refused, with_a_parameter, without_parameter}
use Rattle.obq_windows.specs.Trees.{Kept, KeptRaising, KeptValue, PlainAgain, PlainBroadcast, PlainCloning, PlainEachItem, PlainEachSize, PlainExport, PlainField, PlainForkOff, PlainGet, PlainGiveUp, PlainImport, PlainInvoke, PlainItemOf, PlainJoin, PlainLeave, PlainLineUp, PlainNewArray, PlainNewCondition, PlainNewEngine, PlainNewVariable, PlainOperation, PlainRead, PlainRedirect, PlainRunEngine, PlainSetAlias, PlainSetItem, PlainSetMethod, PlainSetValue, PlainSetVariable, PlainSignal, PlainSize, PlainWrite, TreeAct, TreeAfter, TreeFrame, TreeRaising, TreeValue, act_form, frames_of, kept_term, method_of, method_part, plain_names, read_fields, read_operation, scope_after, term_of}
use Rattle.obq_windows.specs.Values.{IsMadeTable, OkayValue, PlainValue, Table, read_all, read_value, tree_params}
use Rattle.obq_windows.proofs.Around.{are_frames, asks, found_in, to_here}
use Rattle.obq_windows.proofs.Calls.{length_read, value_params}
use Rattle.obq_windows.proofs.Counts.{counted}

-- what stands next in an act's form with this part
abbrev pub ActIs : {R : Type 0} → Table R → PlainOperation R → Term R → Found R → Option (Kept R) → Type 0
ActIs T op scope found None = found ≡ Needs (read_operation T op scope) []
ActIs T op scope found (Some k) = found ≡ Next (kept_term T k)

names_read : {R : Type 0} → (T : Table R) (fields : List (PlainField R)) → field_names (read_fields T fields) ≡ plain_names fields
names_read T [] = refl
names_read T (f ∷ fs) = ap (λ l. f.name ∷ l) (names_read T fs)

abbrev MethodIs : {R : Type 0} → Table R → R → Bytes → Value R → Found R → Option (Kept R) → Type 0
MethodIs T o x v found None = found ≡ Needs (Set o x (method_of v)) []
MethodIs T o x v found (Some k) = found ≡ Next (kept_term T k)

method_is : {R : Type 0} → (eq : R → R → Bool) (T : Table R) (a : ℕ) (s : Self R) (o : R) (x : Bytes) (m : PlainValue R) (scope : Term R) (v : Value R)
    → MethodIs T o x v (find eq a s (Form (SetMethod x) (Part (Const (Loc Object o)) (Part (method_part v) End)))) (refused_method v)
method_is {R} eq T a s o x m scope (Closure params body) = at (is_too_deep body) where
  at : (c : Bool) → MethodIs T o x (Closure params body) (if c then Next closure_limit else Needs (Set o x (IsMethod params body)) []) (if c then Some (KeptRaising (Exn (codes "closure_limit"))) else None)
  at true = refl
  at false = refl
method_is eq T a s o x m scope (Int z) = refl
method_is eq T a s o x m scope (Truth z) = refl
method_is eq T a s o x m scope (Text z) = refl
method_is eq T a s o x m scope (Exc z) = refl
method_is eq T a s o x m scope (Thread z) = refl
method_is eq T a s o x m scope (Member z G i) = refl
method_is eq T a s o x m scope (Loc k z) = refl
method_is eq T a s o x m scope Okay = refl

pub act_is : {R : Type 0} → (eq : R → R → Bool) (T : Table R) → IsMadeTable T → (a : ℕ) (s : Self R) (op : PlainOperation R) (scope : Term R) → ActIs T op scope (find eq a s (act_form T op scope)) (act_ends (tree_params T) (tree_refused T) a op)
act_is {R} eq T w a s (PlainInvoke o x vs) scope = subst (λ (f : Found R). ActIs T (PlainInvoke o x vs) scope f (act_ends (tree_params T) (tree_refused T) a (PlainInvoke o x vs))) (sym (operands eq a s (Invoke x) [] (Loc Object o ∷ read_all T vs) End (λ i l. refl))) (at (is_call_limit a)) where
  at : (b : Bool) → ActIs T (PlainInvoke o x vs) scope (if b then Next call_limit else Needs (CallMethod o x (read_all T vs)) []) (if b then Some (KeptRaising (Exn (codes "call_limit"))) else None)
  at true = refl
  at false = refl
act_is {R} eq T w a s (PlainNewArray vs) scope =
    subst (λ (f : Found R). ActIs T (PlainNewArray vs) scope f (act_ends (tree_params T) (tree_refused T) a (PlainNewArray vs))) (sym (operands eq a s MakeArray [] (read_all T vs) End (λ i l. refl)))
    (subst (λ (n : ℕ). ActIs T (PlainNewArray vs) scope (if nat_lt ARRAY_LIMIT n then Next array_limit else Needs (New (ArrayCell (read_all T vs)) Itself) []) (act_ends (tree_params T) (tree_refused T) a (PlainNewArray vs))) (sym (length_read T vs)) (at (nat_lt ARRAY_LIMIT (length vs)))) where
      at : (b : Bool) → ActIs T (PlainNewArray vs) scope (if b then Next array_limit else Needs (New (ArrayCell (read_all T vs)) Itself) []) (if b then Some (KeptRaising (Exn (codes "array_limit"))) else None)
      at true = refl
      at false = refl
act_is eq T w a s (PlainGet o x) scope = refl
act_is eq T w a s (PlainRead r) scope = refl
act_is eq T w a s (PlainWrite x t) scope = refl
act_is eq T w a s (PlainItemOf r i) scope = refl
act_is eq T w a s (PlainSize r) scope = refl
act_is eq T w a s PlainNewCondition scope = refl
act_is eq T w a s (PlainNewVariable v) scope = refl
act_is eq T w a s (PlainSetVariable r v) scope = refl
act_is eq T w a s (PlainSetItem r i v) scope = refl
act_is eq T w a s (PlainSetValue o x v) scope = refl
act_is eq T w a s (PlainSetAlias o x q y) scope = refl
act_is {R} eq T w a s (PlainSetMethod o x m) scope = at (refused_method (read_value T m)) (method_is eq T a s o x m scope (read_value T m)) where
  at : (k : Option (Kept R)) → MethodIs T o x (read_value T m) (find eq a s (act_form T (PlainSetMethod o x m) scope)) k → ActIs T (PlainSetMethod o x m) scope (find eq a s (act_form T (PlainSetMethod o x m) scope)) k
  at None h = h
  at (Some k) h = h
act_is eq T w a s (PlainRedirect o q) scope = refl
act_is eq T w a s (PlainLeave o (KeptValue v)) scope = refl
act_is eq T w a s (PlainLeave o (KeptRaising r)) scope = refl
act_is {R} eq T w a s (PlainForkOff f) scope = subst (λ (k : Option ℕ). ActIs T (PlainForkOff f) scope (fork_of (read_value T f) (params_of (read_value T f))) (without_parameter k)) (value_params T w f) (at (params_of (read_value T f))) where
  at : (o : Option (List Bytes)) → ActIs T (PlainForkOff f) scope (fork_of (read_value T f) o) (without_parameter (option_map length o))
  at None = refl
  at (Some []) = refl
  at (Some (x ∷ xs)) = refl
act_is {R} eq T w a s (PlainRunEngine e f) scope = at (is_call_limit a) where
  parameter : (o : Option (List Bytes)) → ActIs T (PlainRunEngine e f) scope (with_one_parameter e (read_value T f) o) (with_a_parameter (option_map length o))
  parameter None = refl
  parameter (Some xs) = by_length (length xs == 1) where
    by_length : (c : Bool) → ActIs T (PlainRunEngine e f) scope (if c then Needs (RunEngine e (read_value T f)) [] else Next arity) (if c then None else Some (KeptRaising (Exn (codes "arity"))))
    by_length true = refl
    by_length false = refl

  at : (c : Bool) → ActIs T (PlainRunEngine e f) scope (if c then Next call_limit else with_one_parameter e (read_value T f) (params_of (read_value T f))) (if c then Some (KeptRaising (Exn (codes "call_limit"))) else with_a_parameter (tree_params T f))
  at true = refl
  at false = subst (λ (k : Option ℕ). ActIs T (PlainRunEngine e f) scope (with_one_parameter e (read_value T f) (params_of (read_value T f))) (with_a_parameter k)) (value_params T w f) (parameter (params_of (read_value T f)))
act_is eq T w a s (PlainExport x namer v) scope = refl
act_is eq T w a s (PlainImport x namer true) scope = refl
act_is eq T w a s (PlainImport x namer false) scope = refl
act_is eq T w a s (PlainNewEngine x namer v) scope = refl
act_is eq T w a s (PlainEachSize r) scope = refl
act_is eq T w a s (PlainLineUp o c) scope = refl
act_is eq T w a s (PlainGiveUp o c) scope = refl
act_is eq T w a s (PlainAgain o c) scope = refl
act_is eq T w a s (PlainCloning None fields (o ∷ rest)) scope = refl
act_is eq T w a s (PlainCloning (Some flags) fields (o ∷ rest)) scope = refl
act_is eq T w a s (PlainCloning None fields []) scope = refl
act_is {R} eq T w a s (PlainCloning (Some flags) fields []) scope =
    subst (λ (names : List Bytes). ActIs T (PlainCloning (Some flags) fields []) scope (if twice names then Next field_twice else Needs (New (ObjectCell flags None (read_fields T fields)) Itself) []) (if twice (plain_names fields) then Some (KeptRaising (Exn (codes "field_twice"))) else None)) (sym (names_read T fields)) (at (twice (plain_names fields))) where
      at : (c : Bool) → ActIs T (PlainCloning (Some flags) fields []) scope (if c then Next field_twice else Needs (New (ObjectCell flags None (read_fields T fields)) Itself) []) (if c then Some (KeptRaising (Exn (codes "field_twice"))) else None)
      at true = refl
      at false = refl
act_is {R} eq T w a s (PlainEachItem r i n) scope = at (i == n) where
  at : (c : Bool) → ActIs T (PlainEachItem r i n) scope (if c then Next (Const Okay) else Needs (EachItem r i n scope) []) (if c then Some (KeptValue OkayValue) else None)
  at true = refl
  at false = refl
act_is eq T w a s (PlainSignal c) scope = refl
act_is eq T w a s (PlainBroadcast c) scope = refl
act_is eq T w a s (PlainJoin t) scope = refl

-- where a term comes to what an act's form comes to
pub act_from : {R : Type 0} → (eq : R → R → Bool) (T : Table R) → IsMadeTable T → (a : ℕ) (s : Self R) (fs : List (TreeFrame R)) (t : Term R) (op : PlainOperation R) (after : TreeAfter R) → found_in eq T a s fs t ≡ found_in eq T a s fs (act_form T op (scope_after T after))
    → Moves eq T a s (plug (frames_of T fs) t) (tree_act (act_ends (tree_params T) (tree_refused T) (count_activations a fs) op) op after fs)
act_from {R} eq T w a s fs t op after e =
    subst (λ (n : ℕ). Moves eq T a s (plug (frames_of T fs) t) (tree_act (act_ends (tree_params T) (tree_refused T) n op) op after fs)) (counted T a fs)
    (at (act_ends (tree_params T) (tree_refused T) (activations_at a (frames_of T fs)) op) (act_is eq T w (activations_at a (frames_of T fs)) (self_at s (frames_of T fs)) op (scope_after T after))) where
      at : (o : Option (Kept R)) → ActIs T op (scope_after T after) (found_in eq T a s fs (act_form T op (scope_after T after))) o → Moves eq T a s (plug (frames_of T fs) t) (tree_act o op after fs)
      at None h = asks eq T a s fs _ op after (e ∙ h)
      at (Some (KeptValue v)) h = to_here eq T a s fs _ (TreeValue v) (e ∙ h)
      at (Some (KeptRaising r)) h = to_here eq T a s fs _ (TreeRaising r) (e ∙ h)

pub act_moves : {R : Type 0} → (eq : R → R → Bool) (T : Table R) → IsMadeTable T → (a : ℕ) (s : Self R) (fs : List (TreeFrame R)) (op : PlainOperation R) (after : TreeAfter R)
    → Moves eq T a s (term_of T fs (TreeAct op after)) (tree_act (act_ends (tree_params T) (tree_refused T) (count_activations a fs) op) op after fs)
act_moves eq T w a s fs op after = act_from eq T w a s fs _ op after refl

-- ---- what an act leaves at its form

abbrev operation_in : {R : Type 0} → Found R → Option (Operation R)
operation_in (Needs o fs) = Some o
operation_in found = None

abbrev frames_in : {R : Type 0} → Found R → List (Frame R)
frames_in (Needs o fs) = fs
frames_in found = []

-- what a window that is asked says of the term that it reads back as
pub record Asked {R : Type 0} (T : Table R) (fs : List (TreeFrame R)) (op : PlainOperation R) (after : TreeAfter R) (o : Operation R) (around : List (Frame R)) : Type 0 where
  pub operation : o ≡ read_operation T op (scope_after T after)
  pub frames : around ≡ frames_of T fs

asked_is : {R : Type 0} → (T : Table R) (fs : List (TreeFrame R)) (op : PlainOperation R) (after : TreeAfter R) (o : Operation R) (around : List (Frame R)) (found : Found R) → found ≡ Needs o around → found ≡ Needs (read_operation T op (scope_after T after)) (frames_of T fs) → Asked T fs op after o around
asked_is {R} T fs op after o around found e f = record {
  operation = ap (λ (z : Found R). unwrap_or (operation_in z) o) (sym e ∙ f);
  frames = ap (λ (z : Found R). frames_in z) (sym e ∙ f);
}

pub act_asks : {R : Type 0} → (eq : R → R → Bool) (T : Table R) → IsMadeTable T → (a : ℕ) (s : Self R) (fs : List (TreeFrame R)) (op : PlainOperation R) (after : TreeAfter R) (o : Operation R) (around : List (Frame R)) → find eq a s (term_of T fs (TreeAct op after)) ≡ Needs o around → Asked T fs op after o around
act_asks {R} eq T w a s fs op after o around e =
    at (act_ends (tree_params T) (tree_refused T) (activations_at a (frames_of T fs)) op) (act_is eq T w (activations_at a (frames_of T fs)) (self_at s (frames_of T fs)) op (scope_after T after)) where
      at : (z : Option (Kept R)) → ActIs T op (scope_after T after) (found_in eq T a s fs (act_form T op (scope_after T after))) z → Asked T fs op after o around
      at None h = asked_is T fs op after o around _ e (needs_plug eq a s (frames_of T fs) _ _ [] (are_frames T fs) h ∙ ap (Needs (read_operation T op (scope_after T after))) (append-nil (frames_of T fs)))
      at (Some k) h = absurd (true≢false (ap (λ (z : Found R). is_some (operation_in z)) (sym e ∙ step_plug eq a s (frames_of T fs) _ _ (are_frames T fs) h)))

-- an act that is needed doesn't end in another way
pub act_goes_on : {R : Type 0} → (eq : R → R → Bool) (T : Table R) → IsMadeTable T → (a : ℕ) (s : Self R) (fs : List (TreeFrame R)) (op : PlainOperation R) (after : TreeAfter R) (o : Operation R) (around : List (Frame R)) → find eq a s (term_of T fs (TreeAct op after)) ≡ Needs o around
    → act_ends (tree_params T) (tree_refused T) (activations_at a (frames_of T fs)) op ≡ None
act_goes_on {R} eq T w a s fs op after o around e =
    at (act_ends (tree_params T) (tree_refused T) (activations_at a (frames_of T fs)) op) refl (act_is eq T w (activations_at a (frames_of T fs)) (self_at s (frames_of T fs)) op (scope_after T after)) where
      at : (z : Option (Kept R)) → act_ends (tree_params T) (tree_refused T) (activations_at a (frames_of T fs)) op ≡ z → ActIs T op (scope_after T after) (found_in eq T a s fs (act_form T op (scope_after T after))) z → act_ends (tree_params T) (tree_refused T) (activations_at a (frames_of T fs)) op ≡ None
      at None q h = q
      at (Some k) q h = absurd (true≢false (ap (λ (z : Found R). is_some (operation_in z)) (sym e ∙ step_plug eq a s (frames_of T fs) _ _ (are_frames T fs) h)))
