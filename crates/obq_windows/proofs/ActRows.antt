-- What acts on one cell do at a window's form is what their rows do, and it is complete.
use Rattle.std.specs.Prelude.{Bool, List, None, Option, Some, [], bytes_eq, codes, false, if◌then◌else◌, is_some, length, nat_lt, negsuc, option_map, pos, refl, slice_get, slice_set, suc, true, zero, ℕ, ℤ, ◌++◌, ◌==◌, ◌∷◌, ◌≡◌}
use Rattle.std.proofs.Common.{ap, subst, sym, ◌∙◌, true≢false}
use Rattle.std.proofs.lemmas.Bool.{eqb-true}
use Rattle.obq_base.specs.declared.acts.ActKind.{ActKind}
use Rattle.obq_base.specs.declared.trees.Flags.{Flags}
use Rattle.obq_model.specs.Cells.{cell_row, is_clear, is_refused, mode_for, owner_for}
use Rattle.obq_model.specs.Procedures.{Proc}
use Rattle.obq_model.specs.Step.{Needs, Operation, Self, activations_at, find, is_call_limit}
use Rattle.obq_model.specs.Terms.{Bytes, Exn, Object, Term}
use Rattle.obq_windows.specs.Acts.{AnswerMethod, CompleteAnswer, HasParameters, PlainAnswer, Takes}
use Rattle.obq_windows.specs.Agrees.{Agrees}
use Rattle.obq_windows.specs.Complete.{AllComplete, CompleteAfter, CompleteBody, CompleteFields, CompleteFocus, CompleteOperation, IsComplete}
use Rattle.obq_windows.specs.Moves.{act_ends, tree_refused, with_a_parameter}
use Rattle.obq_windows.specs.Rows.{ActsRead, CompleteLeft, CompleteOutcome, PlainArray, PlainCell, PlainCondition, PlainEnds, PlainEngine, PlainObject, PlainOutcome, PlainVariable, PlainWaits, PlainWriter, RowAnswered, RowsComplete, RowsRead, StandsFor, answer_raises, get_plain, invoke_plain, is_plain_alias, item_plain, line_plain, object_plain, plain_aliased, plain_field, plain_item_at, plain_items, plain_owned, plain_row, plain_value, read_cell, read_outcome, set_here_plain, set_item_plain, set_plain, set_target, set_variable_plain, takes_count, with_plain_field, write_plain}
use Rattle.obq_windows.specs.Trees.{AliasBody, Kept, KeptRaising, KeptValue, MethodBody, PlainAgain, PlainBody, PlainBroadcast, PlainCloning, PlainEachItem, PlainEachSize, PlainExport, PlainField, PlainForkOff, PlainGet, PlainGiveUp, PlainImport, PlainInvoke, PlainItemOf, PlainJoin, PlainLeave, PlainLineUp, PlainNewArray, PlainNewCondition, PlainNewEngine, PlainNewVariable, PlainOperation, PlainRead, PlainRedirect, PlainRunEngine, PlainSetAlias, PlainSetItem, PlainSetMethod, PlainSetValue, PlainSetVariable, PlainSignal, PlainSize, PlainWrite, TreeAct, TreeFocus, ValueBody, field_of, frames_of, kind_of, read_operation, scope_after, term_of}
use Rattle.obq_windows.specs.Values.{ClosureValue, ExceptionValue, IntValue, LocationValue, OkayValue, PlainValue, Table, TextValue, ThreadValue, TruthValue, count_in, proc_of, read_value, tree_params}
use Rattle.obq_windows.specs.Windows.{Store, node_params}
use Rattle.obq_windows.proofs.Acts.{act_asks, act_goes_on}
use Rattle.obq_windows.proofs.AlikeCalls.{params_same}
use Rattle.obq_windows.proofs.Answering.{AtAct, answers_read, at_act}
use Rattle.obq_windows.proofs.Depths.{MaybeComplete}
use Rattle.obq_windows.proofs.Rows.{ClosedMaybe, body_complete, refused_closed, row_is}
use Rattle.obq_windows.proofs.Whole.{made_of}

-- a closure that takes so many arguments
takes_of : {R : Type 0} → (T : Table R) (f : PlainValue R) (vs : List (PlainValue R)) → takes_count (tree_params T f) (length vs) ≡ true → Takes T f vs
takes_of {R} T (ClosureValue thread count group index captured) vs e = at (proc_of T group index) e where
  at : (o : Option Proc) → takes_count (count_in o) (length vs) ≡ true → HasParameters o (length vs)
  at None h = absurd (true≢false (sym h))
  at (Some q) h = eqb-true (length q.params) (length vs) h
takes_of T (IntValue z) vs e = absurd (true≢false (sym e))
takes_of T (TruthValue z) vs e = absurd (true≢false (sym e))
takes_of T OkayValue vs e = absurd (true≢false (sym e))
takes_of T (TextValue z) vs e = absurd (true≢false (sym e))
takes_of T (ExceptionValue z) vs e = absurd (true≢false (sym e))
takes_of T (ThreadValue z) vs e = absurd (true≢false (sym e))
takes_of T (LocationValue k z) vs e = absurd (true≢false (sym e))

-- a closure that an engine is asked to call takes one
abbrev engine_ends : (R : Type 0) → Option ℕ → Bool → Option (Kept R)
engine_ends R o c = if c then Some (KeptRaising (Exn (codes "call_limit"))) else with_a_parameter o

engine_takes : (R : Type 0) (o : Option ℕ) (c : Bool) → engine_ends R o c ≡ None → takes_count o 1 ≡ true
engine_takes R o true e = absurd (true≢false (ap is_some e))
engine_takes R None false e = absurd (true≢false (ap is_some e))
engine_takes R (Some n) false e = at (n == 1) e where
  ends : Bool → Option (Kept R)
  ends c = if c then None else Some (KeptRaising (Exn (codes "arity")))

  at : (c : Bool) → ends c ≡ None → c ≡ true
  at true h = refl
  at false h = absurd (true≢false (ap is_some h))

module _ {R : Type 0} (eq : R → R → Bool) (T : Table R) (t : ℕ) (s : Self R) where
  either_outcome : (op : PlainOperation R) (c : Bool) (p q : PlainOutcome R) → CompleteOutcome T op p → CompleteOutcome T op q → CompleteOutcome T op (if c then p else q)
  either_outcome op true p q h k = h
  either_outcome op false p q h k = k

  object_complete : (op : PlainOperation R) (o : R) (f : Flags → Option ℕ → List (PlainField R) → PlainOutcome R) → ((flags : Flags) (owner : Option ℕ) (fields : List (PlainField R)) → CompleteFields T fields → CompleteOutcome T op (f flags owner fields))
      → (cell : Option (PlainCell R)) → CompleteLeft T cell → CompleteOutcome T op (object_plain eq s o f cell)
  object_complete op o f h (Some (PlainObject flags owner fields)) k = either_outcome op (is_clear eq s o flags owner) (f flags owner fields) PlainWaits (h flags owner fields k) tt
  object_complete op o f h None k = tt
  object_complete op o f h (Some (PlainArray us)) k = tt
  object_complete op o f h (Some (PlainVariable u)) k = tt
  object_complete op o f h (Some (PlainWriter bytes)) k = tt
  object_complete op o f h (Some (PlainCondition line)) k = tt
  object_complete op o f h (Some (PlainEngine u)) k = tt

  get_complete : (o : R) (x : Bytes) (b : Option (PlainBody R)) → ClosedMaybe T b → CompleteOutcome T (PlainGet o x) (get_plain b)
  get_complete o x None h = (tt, tt)
  get_complete o x (Some (ValueBody v)) h = (tt, h)
  get_complete o x (Some (MethodBody m)) h = (tt, tt)
  get_complete o x (Some (AliasBody p y)) h = (tt, (tt, refl))

  invoke_complete : (o : R) (x : Bytes) (vs : List (PlainValue R)) → AllComplete T vs → (flags : Flags) (owner : Option ℕ) (fields : List (PlainField R)) → CompleteFields T fields → (b : Option (PlainBody R)) → ClosedMaybe T b
      → CompleteOutcome T (PlainInvoke o x vs) (invoke_plain (tree_params T) eq t s o flags owner fields vs b)
  invoke_complete o x vs c flags owner fields k None h = (tt, tt)
  invoke_complete o x vs c flags owner fields k (Some (ValueBody v)) h = (tt, tt)
  invoke_complete o x vs c flags owner fields k (Some (AliasBody p y)) h = (tt, (c, refl))
  invoke_complete o x vs c flags owner fields k (Some (MethodBody m)) h = at (takes_count (tree_params T m) (suc (length vs))) refl where
    at : (z : Bool) → takes_count (tree_params T m) (suc (length vs)) ≡ z → CompleteOutcome T (PlainInvoke o x vs) (if z then PlainEnds ActKind.Call (Some (PlainObject flags (owner_for eq s o flags t owner) fields)) (AnswerMethod o (mode_for eq s o flags) m vs) else PlainEnds ActKind.Call None (answer_raises (codes "arity")))
    at true e = (k, (h.0, c, takes_of T m (LocationValue Object o ∷ vs) e))
    at false e = (tt, tt)

  with_field_complete : (x : Bytes) (body : PlainBody R) → CompleteBody T body → (fields : List (PlainField R)) → CompleteFields T fields → CompleteFields T (with_plain_field x body fields)
  with_field_complete x body b [] h = tt
  with_field_complete x body b (f ∷ fields) h = at (bytes_eq x f.name) (with_field_complete x body b fields h.1) where
    at : (c : Bool) → CompleteFields T (with_plain_field x body fields) → CompleteFields T (if c then field_of f.name body ∷ fields else f ∷ with_plain_field x body fields)
    at true k = (b, h.1)
    at false k = (h.0, k)

  set_here_complete : (op : PlainOperation R) (o : R) (x : Bytes) (body : PlainBody R) → CompleteBody T body → (flags : Flags) (owner : Option ℕ) (fields : List (PlainField R)) → CompleteFields T fields → CompleteOutcome T op (set_here_plain eq s o flags owner fields x body)
  set_here_complete op o x body b flags owner fields k = either_outcome op (is_refused eq s o flags) _ _ (tt, tt) (with_field_complete x body b fields k, tt)

  set_complete : (op : PlainOperation R) (o : R) (x : Bytes) (body : PlainBody R) → CompleteBody T body → ((p : R) (y : Bytes) → CompleteOperation T (set_target p y body) × (kind_of (set_target p y body) ≡ kind_of op))
      → (flags : Flags) (owner : Option ℕ) (fields : List (PlainField R)) → CompleteFields T fields → (b : Option (PlainBody R)) → CompleteOutcome T op (set_plain eq s o flags owner fields x body b)
  set_complete op o x body b c flags owner fields k None = (tt, tt)
  set_complete op o x body b c flags owner fields k (Some (ValueBody v)) = set_here_complete op o x body b flags owner fields k
  set_complete op o x body b c flags owner fields k (Some (MethodBody m)) = set_here_complete op o x body b flags owner fields k
  set_complete op o x body b c flags owner fields k (Some (AliasBody p y)) = either_outcome op (is_plain_alias body) _ _ (set_here_complete op o x body b flags owner fields k) (tt, c p y)

  fields_append : (xs ys : List (PlainField R)) → CompleteFields T xs → CompleteFields T ys → CompleteFields T (xs ++ ys)
  fields_append [] ys h k = k
  fields_append (f ∷ xs) ys h k = (h.0, fields_append xs ys h.1 k)

  aliased_complete : (target : R) (fields : List (PlainField R)) → CompleteFields T (plain_aliased target fields)
  aliased_complete target [] = tt
  aliased_complete target (f ∷ fields) = (tt, aliased_complete target fields)

  owned_complete : (owner : Option ℕ) (cell : Option (PlainCell R)) → CompleteLeft T cell → CompleteLeft T (plain_owned owner cell)
  owned_complete owner (Some (PlainObject flags old fields)) k = k
  owned_complete owner None k = tt
  owned_complete owner (Some (PlainArray us)) k = tt
  owned_complete owner (Some (PlainVariable u)) k = tt
  owned_complete owner (Some (PlainWriter bytes)) k = tt
  owned_complete owner (Some (PlainCondition line)) k = tt
  owned_complete owner (Some (PlainEngine u)) k = tt

  items_complete : (cell : Option (PlainCell R)) → CompleteLeft T cell → AllComplete T (plain_items cell)
  items_complete (Some (PlainArray vs)) k = k
  items_complete None k = tt
  items_complete (Some (PlainObject flags owner fields)) k = tt
  items_complete (Some (PlainVariable u)) k = tt
  items_complete (Some (PlainWriter bytes)) k = tt
  items_complete (Some (PlainCondition line)) k = tt
  items_complete (Some (PlainEngine u)) k = tt

  value_complete : (cell : Option (PlainCell R)) → CompleteLeft T cell → IsComplete T (plain_value cell)
  value_complete (Some (PlainVariable v)) k = k
  value_complete (Some (PlainEngine v)) k = k
  value_complete None k = tt
  value_complete (Some (PlainObject flags owner fields)) k = tt
  value_complete (Some (PlainArray us)) k = tt
  value_complete (Some (PlainWriter bytes)) k = tt
  value_complete (Some (PlainCondition line)) k = tt

  item_found : (vs : List (PlainValue R)) (i : ℕ) → AllComplete T vs → MaybeComplete T (slice_get vs i)
  item_found [] zero h = tt
  item_found [] (suc i) h = tt
  item_found (v ∷ vs) zero h = h.0
  item_found (v ∷ vs) (suc i) h = item_found vs i h.1

  item_at_found : (vs : List (PlainValue R)) (i : ℤ) → AllComplete T vs → MaybeComplete T (plain_item_at vs i)
  item_at_found vs (pos i) h = item_found vs i h
  item_at_found vs (negsuc i) h = tt

  item_complete : (op : PlainOperation R) (v : Option (PlainValue R)) → MaybeComplete T v → CompleteOutcome T op (item_plain v)
  item_complete op None h = (tt, tt)
  item_complete op (Some v) h = (tt, h)

  item_put : (vs : List (PlainValue R)) (i : ℕ) (v : PlainValue R) → IsComplete T v → AllComplete T vs → AllComplete T (slice_set vs i v)
  item_put [] zero v c h = tt
  item_put [] (suc i) v c h = tt
  item_put (u ∷ vs) zero v c h = (c, h.1)
  item_put (u ∷ vs) (suc i) v c h = (h.0, item_put vs i v c h.1)

  set_item_complete : (op : PlainOperation R) (i : ℤ) (v : PlainValue R) → IsComplete T v → (cell : Option (PlainCell R)) → CompleteLeft T cell → CompleteOutcome T op (set_item_plain i v cell)
  set_item_complete op (pos i) v c (Some (PlainArray vs)) k = either_outcome op (nat_lt i (length vs)) _ _ (item_put vs i v c k, tt) (tt, tt)
  set_item_complete op (negsuc i) v c (Some (PlainArray vs)) k = (tt, tt)
  set_item_complete op (pos i) v c None k = tt
  set_item_complete op (pos i) v c (Some (PlainObject flags owner fields)) k = tt
  set_item_complete op (pos i) v c (Some (PlainVariable u)) k = tt
  set_item_complete op (pos i) v c (Some (PlainWriter bytes)) k = tt
  set_item_complete op (pos i) v c (Some (PlainCondition line)) k = tt
  set_item_complete op (pos i) v c (Some (PlainEngine u)) k = tt
  set_item_complete op (negsuc i) v c None k = tt
  set_item_complete op (negsuc i) v c (Some (PlainObject flags owner fields)) k = tt
  set_item_complete op (negsuc i) v c (Some (PlainVariable u)) k = tt
  set_item_complete op (negsuc i) v c (Some (PlainWriter bytes)) k = tt
  set_item_complete op (negsuc i) v c (Some (PlainCondition line)) k = tt
  set_item_complete op (negsuc i) v c (Some (PlainEngine u)) k = tt

  set_variable_complete : (op : PlainOperation R) (v : PlainValue R) → IsComplete T v → (cell : Option (PlainCell R)) → CompleteOutcome T op (set_variable_plain v cell)
  set_variable_complete op v c (Some (PlainVariable u)) = (c, tt)
  set_variable_complete op v c None = tt
  set_variable_complete op v c (Some (PlainObject flags owner fields)) = tt
  set_variable_complete op v c (Some (PlainArray us)) = tt
  set_variable_complete op v c (Some (PlainWriter bytes)) = tt
  set_variable_complete op v c (Some (PlainCondition line)) = tt
  set_variable_complete op v c (Some (PlainEngine u)) = tt

  write_complete : (op : PlainOperation R) (text : Bytes) (cell : Option (PlainCell R)) → CompleteOutcome T op (write_plain text cell)
  write_complete op text (Some (PlainWriter bytes)) = (tt, tt)
  write_complete op text None = tt
  write_complete op text (Some (PlainObject flags owner fields)) = tt
  write_complete op text (Some (PlainArray us)) = tt
  write_complete op text (Some (PlainVariable u)) = tt
  write_complete op text (Some (PlainCondition line)) = tt
  write_complete op text (Some (PlainEngine u)) = tt

  line_complete : (op : PlainOperation R) (kind : ActKind) (f : List ℕ → List ℕ) (answer : PlainAnswer R) → CompleteAnswer T op answer → (cell : Option (PlainCell R)) → CompleteOutcome T op (line_plain kind f answer cell)
  line_complete op kind f answer h (Some (PlainCondition line)) = (tt, h)
  line_complete op kind f answer h None = tt
  line_complete op kind f answer h (Some (PlainObject flags owner fields)) = tt
  line_complete op kind f answer h (Some (PlainArray us)) = tt
  line_complete op kind f answer h (Some (PlainVariable u)) = tt
  line_complete op kind f answer h (Some (PlainWriter bytes)) = tt
  line_complete op kind f answer h (Some (PlainEngine u)) = tt

  pub row_complete : (a : ℕ) (op : PlainOperation R) → CompleteOperation T op → act_ends (tree_params T) (tree_refused T) a op ≡ None → (cell : Option (PlainCell R)) → CompleteLeft T cell → CompleteOutcome T op (plain_row (tree_params T) eq t s op cell)
  row_complete a (PlainGet o x) c e cell k = object_complete (PlainGet o x) o _ (λ flags owner fields h. get_complete o x (plain_field x fields) (body_complete T x fields h)) cell k
  row_complete a (PlainInvoke o x vs) c e cell k = object_complete (PlainInvoke o x vs) o _ (λ flags owner fields h. invoke_complete o x vs c flags owner fields h (plain_field x fields) (body_complete T x fields h)) cell k
  row_complete a (PlainSetValue o x v) c e cell k = object_complete (PlainSetValue o x v) o _ (λ flags owner fields h. set_complete (PlainSetValue o x v) o x (ValueBody v) c (λ p y. (c, refl)) flags owner fields h (plain_field x fields)) cell k
  row_complete a (PlainSetMethod o x m) c e cell k = object_complete (PlainSetMethod o x m) o _ (λ flags owner fields h. set_complete (PlainSetMethod o x m) o x (MethodBody m) (c.0, refused_closed (read_value T m) c.1) (λ p y. (c, refl)) flags owner fields h (plain_field x fields)) cell k
  row_complete a (PlainSetAlias o x q y) c e cell k = object_complete (PlainSetAlias o x q y) o _ (λ flags owner fields h. set_complete (PlainSetAlias o x q y) o x (AliasBody q y) tt (λ p z. (tt, refl)) flags owner fields h (plain_field x fields)) cell k
  row_complete a (PlainCloning first copied (o ∷ rest)) c e cell k =
      object_complete (PlainCloning first copied (o ∷ rest)) o _ (λ flags owner fields h. either_outcome (PlainCloning first copied (o ∷ rest)) (is_refused eq s o flags) _ _ (tt, tt) (tt, (fields_append copied fields c h, refl))) cell k
  row_complete a (PlainCloning first copied []) c e cell k = tt
  row_complete a (PlainRedirect o target) c e cell k =
      object_complete (PlainRedirect o target) o _ (λ flags owner fields h. either_outcome (PlainRedirect o target) (is_refused eq s o flags) _ _ (tt, tt) (aliased_complete target fields, tt)) cell k
  row_complete a (PlainLeave o (KeptValue v)) c e cell k = (owned_complete None cell k, c)
  row_complete a (PlainLeave o (KeptRaising r)) c e cell k = (owned_complete None cell k, tt)
  row_complete a (PlainItemOf r i) c e cell k = item_complete (PlainItemOf r i) _ (item_at_found (plain_items cell) i (items_complete cell k))
  row_complete a (PlainSize r) c e cell k = (tt, tt)
  row_complete a (PlainEachSize r) c e cell k = (tt, (tt, refl))
  row_complete a (PlainEachItem r i n) c e cell k = item_complete (PlainEachItem r i n) _ (item_found (plain_items cell) i (items_complete cell k))
  row_complete a (PlainSetItem r i v) c e cell k = set_item_complete (PlainSetItem r i v) i v c cell k
  row_complete a (PlainRead r) c e cell k = (tt, value_complete cell k)
  row_complete a (PlainSetVariable r v) c e cell k = set_variable_complete (PlainSetVariable r v) v c cell
  row_complete a (PlainWrite r text) c e cell k = write_complete (PlainWrite r text) text cell
  row_complete a (PlainLineUp o d) c e cell k = line_complete (PlainLineUp o d) _ _ _ (tt, refl) cell
  row_complete a (PlainGiveUp o d) c e cell k = (owned_complete None cell k, (tt, refl))
  row_complete a (PlainSignal d) c e cell k = line_complete (PlainSignal d) _ _ _ tt cell
  row_complete a (PlainBroadcast d) c e cell k = line_complete (PlainBroadcast d) _ _ _ tt cell
  row_complete a (PlainRunEngine r f) c e cell k = (tt, (c, (value_complete cell k, tt), takes_of T f (plain_value cell ∷ []) (engine_takes R (tree_params T f) (is_call_limit a) e)))
  row_complete a (PlainNewArray vs) c e cell k = tt
  row_complete a PlainNewCondition c e cell k = tt
  row_complete a (PlainNewVariable v) c e cell k = tt
  row_complete a (PlainForkOff f) c e cell k = tt
  row_complete a (PlainExport x namer v) c e cell k = tt
  row_complete a (PlainImport x namer engine) c e cell k = tt
  row_complete a (PlainNewEngine x namer v) c e cell k = tt
  row_complete a (PlainAgain o d) c e cell k = tt
  row_complete a (PlainJoin u) c e cell k = tt

-- what a window at an act's form says of the operation
record Stands {R : Type 0} (T : Table R) (op : PlainOperation R) (o : Operation R) : Type 0 where
  scope : Term R
  operation : o ≡ read_operation T op scope
  complete : CompleteOperation T op
  activations : ℕ
  goes_on : act_ends (tree_params T) (tree_refused T) activations op ≡ None

stands : {R : Type 0} → (eq : R → R → Bool) (T : Table R) (S : Store R) → Agrees T S → (op : PlainOperation R) (o : Operation R) → StandsFor eq T S op o → Stands T op o
stands {R} eq T S g op o (a, s, act, ns, na, t, r, around, e) =
    let at : AtAct T S act r.height op na r.focus = at_act T S act r.height op na r.focus r.is_focus in
    let l : CompleteOperation T op × CompleteAfter T op at.after = subst (λ (z : TreeFocus R). CompleteFocus T z) at.is_act r.complete.focus in
    let found : find eq a s (term_of T r.frames (TreeAct op at.after)) ≡ Needs o around = sym (ap (find eq a s) (r.term ∙ ap (term_of T r.frames) at.is_act)) ∙ e in
    record {
      scope = scope_after T at.after;
      operation = (act_asks eq T (made_of T S g) a s r.frames op at.after o around found).operation;
      complete = l.0;
      activations = activations_at a (frames_of T r.frames);
      goes_on = act_goes_on eq T (made_of T S g) a s r.frames op at.after o around found;
    }

pub rows_read : {R X : Type 0} → RowsRead R X
rows_read {R} {X} eq T S g op o h ends waits t s cell k =
    let z : Stands T op o = stands eq T S g op o h in
    subst (λ (q : Operation R). cell_row eq ends waits t s q (option_map (read_cell T) cell) ≡ read_outcome T ends waits q (plain_row (node_params S) eq t s op cell)) (sym z.operation)
    (subst (λ (count : PlainValue R → Option ℕ). cell_row eq ends waits t s (read_operation T op z.scope) (option_map (read_cell T) cell) ≡ read_outcome T ends waits (read_operation T op z.scope) (plain_row count eq t s op cell)) (sym (params_same T S g))
    (row_is eq T (made_of T S g) ends waits t s op z.scope z.complete cell k))

pub rows_complete : {R : Type 0} → RowsComplete R
rows_complete {R} eq T S g op o h t s cell k =
    let z : Stands T op o = stands eq T S g op o h in
    subst (λ (count : PlainValue R → Option ℕ). CompleteOutcome T op (plain_row count eq t s op cell)) (sym (params_same T S g)) (row_complete eq T t s z.activations op z.complete z.goes_on cell k)

-- a row and the window that it answers
pub acts_read : {R X : Type 0} → ActsRead R X
acts_read {R} {X} eq T S g a s act ns op after t r o around e ends waits thread self cell k =
    let h : StandsFor eq T S op o = (a, s, act, ns, after, t, r, around, e) in
    by_outcome (plain_row (node_params S) eq thread self op cell) (rows_read eq T S g op o h ends waits thread self cell k) (rows_complete eq T S g op o h thread self cell k) where
      by_outcome : (outcome : PlainOutcome R) → cell_row eq ends waits thread self o (option_map (read_cell T) cell) ≡ read_outcome T ends waits o outcome → CompleteOutcome T op outcome
          → RowAnswered T S ends waits op after o around act ns outcome (cell_row eq ends waits thread self o (option_map (read_cell T) cell))
      by_outcome PlainWaits q c = q
      by_outcome (PlainEnds kind left answer) q c = (q, c.0, answers_read eq T S g a s act ns op after t r o around e answer c.1)
