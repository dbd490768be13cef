-- The rows of acts on one cell: as code over plain values does them, and in terms.
use Rattle.std.specs.Prelude.{Bool, List, None, Option, Some, [], bytes_eq, codes, drop, false, if◌then◌else◌, is_some, length, nat_lt, negsuc, not, option_map, pos, refl, slice_get, slice_set, suc, true, unwrap_or, zero, ℕ, ℤ, ◌++◌, ◌==◌, ◌||◌, ◌∷◌, ◌≡◌}
use Rattle.std.proofs.Common.{ap, subst, sym, ◌∙◌, true≢false}
use Rattle.obq_base.specs.declared.acts.ActKind.{ActKind}
use Rattle.obq_base.specs.declared.trees.Flags.{Flags}
use Rattle.obq_model.specs.Cells.{Ends, cell_row, copy_row, get_row, import_row, invoke_row, is_alias, is_clear, is_free, is_refused, item_at, item_row, items_of, line_row, mode_for, object_row, on_object_row, owned_cell, owner_for, redirect_row, set_at_target, set_here_row, set_item_row, set_row, set_variable_row, value_of, write_row}
use Rattle.obq_model.specs.Exceptions.{arity, array_index, is_protected, not_value, raising, wrong_type}
use Rattle.obq_model.specs.Put.{enter}
use Rattle.obq_model.specs.Step.{Again, Broadcast, CallMethod, Copy, EachItem, Entered, Get, GetItem, Itself, LineUp, Offered, Operation, RedirectTo, Self, Set, SetItem, SetVariable, Signal, Write, body_with, params_of, testing}
use Rattle.obq_model.specs.Store.{ArrayCell, Cell, ConditionCell, ObjectCell, aliased, append_fields, field, with_field}
use Rattle.obq_model.specs.Terms.{Array, Bytes, Called, Cloning, Closure, Condition, Const, EachAt, EachIn, End, Engine, Exc, Exn, Field, Fields, Form, Int, IsAlias, IsValue, Lined, Loc, Member, Object, Okay, Out, Part, Raised, SetMethod, Term, Text, Thread, Truth, Value, Variable, Within, Writer}
use Rattle.obq_windows.specs.Acts.{AnswerForm, AnswerRaising, AnswerTest, AnswerValue, PlainAnswer, left_by}
use Rattle.obq_windows.specs.Complete.{CompleteBody, CompleteFields, CompleteOperation, IsClosed}
use Rattle.obq_windows.specs.Moves.{refused_method}
use Rattle.obq_windows.specs.Rows.{AgainReads, CompleteLeft, ImportReads, MakesCell, NewReads, PlainArray, PlainCell, PlainCondition, PlainEnds, PlainEngine, PlainObject, PlainOutcome, PlainVariable, PlainWaits, PlainWriter, ThreadsRead, answer_raises, copy_plain, get_plain, invoke_plain, is_plain_free, item_plain, line_plain, object_plain, plain_aliased, plain_field, plain_item_at, plain_items, plain_owned, plain_row, plain_value, read_cell, read_outcome, redirect_plain, set_here_plain, set_item_plain, set_plain, set_variable_plain, takes_count, with_plain_field, write_plain}
use Rattle.obq_windows.specs.Trees.{AliasBody, KeptRaising, KeptValue, MethodBody, PlainAgain, PlainBody, PlainBroadcast, PlainCloning, PlainEachItem, PlainEachSize, PlainExport, PlainField, PlainForkOff, PlainGet, PlainGiveUp, PlainImport, PlainInvoke, PlainItemOf, PlainJoin, PlainLeave, PlainLineUp, PlainNewArray, PlainNewCondition, PlainNewEngine, PlainNewVariable, PlainOperation, PlainRead, PlainRedirect, PlainRunEngine, PlainSetAlias, PlainSetItem, PlainSetMethod, PlainSetValue, PlainSetVariable, PlainSignal, PlainSize, PlainWrite, ValueBody, field_of, method_of, method_part, read_body, read_fields, read_operation}
use Rattle.obq_windows.specs.Values.{ClosureValue, ExceptionValue, IntValue, IsMadeTable, LocationValue, OkayValue, PlainValue, Table, TextValue, ThreadValue, TruthValue, proc_of, read_all, read_value, read_values, tree_params}
use Rattle.obq_windows.proofs.Calls.{length_read, value_params}
use Rattle.obq_windows.proofs.Results.{closure_cases}

pub closed_cases : {R : Type 0} → (P : Value R → Type 0) → ((params : List Bytes) (body : Term R) → P (Closure params body)) → (v : Value R) → IsClosed v → P v
closed_cases P c (Closure params body) h = c params body
closed_cases P c (Int z) h = absurd h
closed_cases P c (Truth z) h = absurd h
closed_cases P c (Text z) h = absurd h
closed_cases P c (Exc z) h = absurd h
closed_cases P c (Thread z) h = absurd h
closed_cases P c (Member z G i) h = absurd h
closed_cases P c (Loc k z) h = absurd h
closed_cases P c Okay h = absurd h

pub refused_closed : {R : Type 0} → (v : Value R) → refused_method v ≡ None → IsClosed v
refused_closed (Closure params body) h = tt
refused_closed (Int z) h = absurd (true≢false (ap is_some h))
refused_closed (Truth z) h = absurd (true≢false (ap is_some h))
refused_closed (Text z) h = absurd (true≢false (ap is_some h))
refused_closed (Exc z) h = absurd (true≢false (ap is_some h))
refused_closed (Thread z) h = absurd (true≢false (ap is_some h))
refused_closed (Member z G i) h = absurd (true≢false (ap is_some h))
refused_closed (Loc k z) h = absurd (true≢false (ap is_some h))
refused_closed Okay h = absurd (true≢false (ap is_some h))

-- ---- fields and items

field_read : {R : Type 0} → (T : Table R) (x : Bytes) (fields : List (PlainField R)) → field x (read_fields T fields) ≡ option_map (read_body T) (plain_field x fields)
field_read T x [] = refl
field_read {R} T x (f ∷ fields) = at (bytes_eq x f.name) (field_read T x fields) where
  at : (c : Bool) → field x (read_fields T fields) ≡ option_map (read_body T) (plain_field x fields) → (if c then Some (read_body T f.body) else field x (read_fields T fields)) ≡ option_map (read_body T) (if c then Some f.body else plain_field x fields)
  at true h = refl
  at false h = h

with_field_read : {R : Type 0} → (T : Table R) (x : Bytes) (body : PlainBody R) (fields : List (PlainField R)) → with_field x (read_body T body) (read_fields T fields) ≡ read_fields T (with_plain_field x body fields)
with_field_read T x body [] = refl
with_field_read {R} T x body (f ∷ fields) = at (bytes_eq x f.name) (with_field_read T x body fields) where
  at : (c : Bool) → with_field x (read_body T body) (read_fields T fields) ≡ read_fields T (with_plain_field x body fields) → (if c then Field f.name (read_body T body) (read_fields T fields) else Field f.name (read_body T f.body) (with_field x (read_body T body) (read_fields T fields))) ≡ read_fields T (if c then field_of f.name body ∷ fields else f ∷ with_plain_field x body fields)
  at true h = refl
  at false h = ap (Field f.name (read_body T f.body)) h

append_read : {R : Type 0} → (T : Table R) (xs ys : List (PlainField R)) → append_fields (read_fields T xs) (read_fields T ys) ≡ read_fields T (xs ++ ys)
append_read T [] ys = refl
append_read T (f ∷ xs) ys = ap (Field f.name (read_body T f.body)) (append_read T xs ys)

aliased_read : {R : Type 0} → (T : Table R) (target : R) (fields : List (PlainField R)) → aliased target (read_fields T fields) ≡ read_fields T (plain_aliased target fields)
aliased_read T target [] = refl
aliased_read T target (f ∷ fields) = ap (Field f.name (IsAlias target f.name)) (aliased_read T target fields)

get_read : {R : Type 0} → (T : Table R) (vs : List (PlainValue R)) (i : ℕ) → slice_get (read_all T vs) i ≡ option_map (read_value T) (slice_get vs i)
get_read T [] zero = refl
get_read T [] (suc i) = refl
get_read T (v ∷ vs) zero = refl
get_read T (v ∷ vs) (suc i) = get_read T vs i

set_read : {R : Type 0} → (T : Table R) (vs : List (PlainValue R)) (i : ℕ) (v : PlainValue R) → slice_set (read_all T vs) i (read_value T v) ≡ read_all T (slice_set vs i v)
set_read T [] zero v = refl
set_read T [] (suc i) v = refl
set_read T (u ∷ vs) zero v = refl
set_read T (u ∷ vs) (suc i) v = ap (λ l. read_value T u ∷ l) (set_read T vs i v)

items_read : {R : Type 0} → (T : Table R) (cell : Option (PlainCell R)) → items_of (option_map (read_cell T) cell) ≡ read_all T (plain_items cell)
items_read T None = refl
items_read T (Some (PlainObject flags owner fields)) = refl
items_read T (Some (PlainArray vs)) = refl
items_read T (Some (PlainVariable v)) = refl
items_read T (Some (PlainWriter bytes)) = refl
items_read T (Some (PlainCondition line)) = refl
items_read T (Some (PlainEngine v)) = refl

value_read : {R : Type 0} → (T : Table R) (cell : Option (PlainCell R)) → value_of (option_map (read_cell T) cell) ≡ read_value T (plain_value cell)
value_read T None = refl
value_read T (Some (PlainObject flags owner fields)) = refl
value_read T (Some (PlainArray vs)) = refl
value_read T (Some (PlainVariable v)) = refl
value_read T (Some (PlainWriter bytes)) = refl
value_read T (Some (PlainCondition line)) = refl
value_read T (Some (PlainEngine v)) = refl

owned_read : {R : Type 0} → (T : Table R) (owner : Option ℕ) (cell : Option (PlainCell R)) → owned_cell owner (option_map (read_cell T) cell) ≡ option_map (read_cell T) (plain_owned owner cell)
owned_read T owner None = refl
owned_read T owner (Some (PlainObject flags old fields)) = refl
owned_read T owner (Some (PlainArray vs)) = refl
owned_read T owner (Some (PlainVariable v)) = refl
owned_read T owner (Some (PlainWriter bytes)) = refl
owned_read T owner (Some (PlainCondition line)) = refl
owned_read T owner (Some (PlainEngine v)) = refl

abbrev pub ClosedMaybe : {R : Type 0} → Table R → Option (PlainBody R) → Type 0
ClosedMaybe T None = Unit {0}
ClosedMaybe T (Some body) = CompleteBody T body

pub body_complete : {R : Type 0} → (T : Table R) (x : Bytes) (fields : List (PlainField R)) → CompleteFields T fields → ClosedMaybe T (plain_field x fields)
body_complete T x [] h = tt
body_complete {R} T x (f ∷ fields) h = at (bytes_eq x f.name) (body_complete T x fields h.1) where
  at : (c : Bool) → ClosedMaybe T (plain_field x fields) → ClosedMaybe T (if c then Some f.body else plain_field x fields)
  at true k = h.0
  at false k = k

-- ---- the rows

-- the body of an update, where it is a method
abbrev CompleteMethod : {R : Type 0} → Table R → PlainBody R → Type 0
CompleteMethod T (MethodBody m) = IsClosed (read_value T m)
CompleteMethod T body = Unit {0}

module _ {R X : Type 0} (eq : R → R → Bool) (T : Table R) (w : IsMadeTable T) (ends : Ends R X) (waits : X) (t : ℕ) (s : Self R) where
  either : (o : Operation R) (c : Bool) (p q : PlainOutcome R) → read_outcome T ends waits o (if c then p else q) ≡ (if c then read_outcome T ends waits o p else read_outcome T ends waits o q)
  either o true p q = refl
  either o false p q = refl

  get_is : (o : R) (x : Bytes) (b : Option (PlainBody R)) → ClosedMaybe T b → get_row ends (option_map (read_body T) b) ≡ read_outcome T ends waits (Get o x) (get_plain b)
  get_is o x None h = refl
  get_is o x (Some (ValueBody v)) h = refl
  get_is o x (Some (AliasBody p y)) h = refl
  get_is o x (Some (MethodBody m)) h = closed_cases (λ (v : Value R). get_row ends (Some (method_of v)) ≡ ends ActKind.Get None not_value) (λ params body. refl) (read_value T m) h.1

  invoke_is : (o : R) (x : Bytes) (vs : List (PlainValue R)) (flags : Flags) (owner : Option ℕ) (fields : List (PlainField R)) (b : Option (PlainBody R)) → ClosedMaybe T b
      → invoke_row eq ends t s o flags owner (read_fields T fields) (read_all T vs) (option_map (read_body T) b) ≡ read_outcome T ends waits (CallMethod o x (read_all T vs)) (invoke_plain (tree_params T) eq t s o flags owner fields vs b)
  invoke_is o x vs flags owner fields None h = refl
  invoke_is o x vs flags owner fields (Some (ValueBody v)) h = refl
  invoke_is o x vs flags owner fields (Some (AliasBody p y)) h = refl
  invoke_is o x vs flags owner fields (Some (MethodBody m)) h =
      closed_cases (λ (v : Value R). option_map length (params_of v) ≡ tree_params T m → invoke_row eq ends t s o flags owner (read_fields T fields) (read_all T vs) (Some (method_of v)) ≡ entered v) (λ params body e.
      ap (λ (n : ℕ). if length params == suc n then ends ActKind.Call (Some (ObjectCell flags (owner_for eq s o flags t owner) (read_fields T fields))) (Form (Within o (mode_for eq s o flags)) (Part (body_with (Closure params body) (Loc Object o ∷ read_all T vs)) End)) else ends ActKind.Call None arity) (length_read T vs)
      ∙ ap (λ (c : Option ℕ). if takes_count c (suc (length vs)) then ends ActKind.Call (Some (ObjectCell flags (owner_for eq s o flags t owner) (read_fields T fields))) (Form (Within o (mode_for eq s o flags)) (Part (body_with (Closure params body) (Loc Object o ∷ read_all T vs)) End)) else ends ActKind.Call None arity) e) (read_value T m) h.1 (value_params T w m)
      ∙ sym (either (CallMethod o x (read_all T vs)) (takes_count (tree_params T m) (suc (length vs))) _ _) where
        entered : Value R → X
        entered v = if takes_count (tree_params T m) (suc (length vs)) then ends ActKind.Call (Some (ObjectCell flags (owner_for eq s o flags t owner) (read_fields T fields))) (Form (Within o (mode_for eq s o flags)) (Part (body_with v (Loc Object o ∷ read_all T vs)) End)) else ends ActKind.Call None arity

  set_here_is : (o : R) (x : Bytes) (body : PlainBody R) (flags : Flags) (owner : Option ℕ) (fields : List (PlainField R))
      → set_here_row eq ends s o flags owner (read_fields T fields) x (read_body T body) ≡ read_outcome T ends waits (Set o x (read_body T body)) (set_here_plain eq s o flags owner fields x body)
  set_here_is o x body flags owner fields = at (is_refused eq s o flags) where
    at : (c : Bool) → (if c then ends ActKind.Set None is_protected else ends ActKind.Set (Some (ObjectCell flags owner (with_field x (read_body T body) (read_fields T fields)))) (Const Okay))
        ≡ read_outcome T ends waits (Set o x (read_body T body)) (if c then PlainEnds ActKind.Set None (answer_raises (codes "protected")) else PlainEnds ActKind.Set (Some (PlainObject flags owner (with_plain_field x body fields))) (AnswerValue OkayValue))
    at true = refl
    at false = ap (λ (fs : Fields R). ends ActKind.Set (Some (ObjectCell flags owner fs)) (Const Okay)) (with_field_read T x body fields)

  set_is : (o : R) (x : Bytes) (body : PlainBody R) → CompleteMethod T body → (flags : Flags) (owner : Option ℕ) (fields : List (PlainField R)) (b : Option (PlainBody R)) → ClosedMaybe T b
      → set_row eq ends s o flags owner (read_fields T fields) x (read_body T body) (option_map (read_body T) b) ≡ read_outcome T ends waits (Set o x (read_body T body)) (set_plain eq s o flags owner fields x body b)
  set_is o x body m flags owner fields None h = refl
  set_is o x body m flags owner fields (Some (ValueBody v)) h = set_here_is o x body flags owner fields
  set_is o x body m flags owner fields (Some (MethodBody f)) h =
      closed_cases (λ (v : Value R). set_row eq ends s o flags owner (read_fields T fields) x (read_body T body) (Some (method_of v)) ≡ read_outcome T ends waits (Set o x (read_body T body)) (set_here_plain eq s o flags owner fields x body)) (λ params z. set_here_is o x body flags owner fields) (read_value T f) h.1
  set_is o x (ValueBody v) m flags owner fields (Some (AliasBody p y)) h = refl
  set_is o x (AliasBody q z) m flags owner fields (Some (AliasBody p y)) h = set_here_is o x (AliasBody q z) flags owner fields
  set_is o x (MethodBody f) m flags owner fields (Some (AliasBody p y)) h =
      closed_cases (λ (v : Value R). (if is_alias (method_of v) then set_here_row eq ends s o flags owner (read_fields T fields) x (method_of v) else ends ActKind.Hop None (set_at_target p y (method_of v))) ≡ ends ActKind.Hop None (Form (SetMethod y) (Part (Const (Loc Object p)) (Part (method_part v) End)))) (λ params body. refl) (read_value T f) m

  copy_is : (o : R) (first : Option Flags) (copied : List (PlainField R)) (rest : List R) (flags : Flags) (fields : List (PlainField R))
      → copy_row eq ends s o flags (read_fields T fields) first (read_fields T copied) rest ≡ read_outcome T ends waits (Copy o first (read_fields T copied) rest) (copy_plain eq s o flags fields first copied rest)
  copy_is o first copied rest flags fields = at (is_refused eq s o flags) where
    at : (c : Bool) → (if c then ends ActKind.Copy None is_protected else ends ActKind.Copy None (Form (Cloning (Some (unwrap_or first flags)) (append_fields (read_fields T copied) (read_fields T fields)) rest) End))
        ≡ read_outcome T ends waits (Copy o first (read_fields T copied) rest) (if c then PlainEnds ActKind.Copy None (answer_raises (codes "protected")) else PlainEnds ActKind.Copy None (AnswerForm (PlainCloning (Some (unwrap_or first flags)) (copied ++ fields) rest)))
    at true = refl
    at false = ap (λ (fs : Fields R). ends ActKind.Copy None (Form (Cloning (Some (unwrap_or first flags)) fs rest) End)) (append_read T copied fields)

  redirect_is : (o target : R) (flags : Flags) (owner : Option ℕ) (fields : List (PlainField R))
      → redirect_row eq ends s o flags owner (read_fields T fields) target ≡ read_outcome T ends waits (RedirectTo o target) (redirect_plain eq s o flags owner fields target)
  redirect_is o target flags owner fields = at (is_refused eq s o flags) where
    at : (c : Bool) → (if c then ends ActKind.Redirect None is_protected else ends ActKind.Redirect (Some (ObjectCell flags owner (aliased target (read_fields T fields)))) (Const Okay))
        ≡ read_outcome T ends waits (RedirectTo o target) (if c then PlainEnds ActKind.Redirect None (answer_raises (codes "protected")) else PlainEnds ActKind.Redirect (Some (PlainObject flags owner (plain_aliased target fields))) (AnswerValue OkayValue))
    at true = refl
    at false = ap (λ (fs : Fields R). ends ActKind.Redirect (Some (ObjectCell flags owner fs)) (Const Okay)) (aliased_read T target fields)

  object_is : (o : R) (op : Operation R) (f : Flags → Option ℕ → List (PlainField R) → PlainOutcome R)
      → ((flags : Flags) (owner : Option ℕ) (fields : List (PlainField R)) → CompleteFields T fields → on_object_row eq ends waits t s o op flags owner (read_fields T fields) ≡ read_outcome T ends waits op (f flags owner fields))
      → (cell : Option (PlainCell R)) → CompleteLeft T cell → object_row eq ends waits t s o op (option_map (read_cell T) cell) ≡ read_outcome T ends waits op (object_plain eq s o f cell)
  object_is o op f h None k = refl
  object_is o op f h (Some (PlainObject flags owner fields)) k = at (is_clear eq s o flags owner) where
    at : (c : Bool) → (if c then on_object_row eq ends waits t s o op flags owner (read_fields T fields) else waits) ≡ read_outcome T ends waits op (if c then f flags owner fields else PlainWaits)
    at true = h flags owner fields k
    at false = refl
  object_is o op f h (Some (PlainArray vs)) k = refl
  object_is o op f h (Some (PlainVariable v)) k = refl
  object_is o op f h (Some (PlainWriter bytes)) k = refl
  object_is o op f h (Some (PlainCondition line)) k = refl
  object_is o op f h (Some (PlainEngine v)) k = refl

  -- an item, which goes to where the answer of this operation goes
  item_is : (o : Operation R) (use_item : Value R → Term R) → ((v : PlainValue R) → use_item (read_value T v) ≡ left_by T o (AnswerValue v)) → ((r : Raised) → raising r ≡ left_by T o (AnswerRaising r)) → (v : Option (PlainValue R))
      → item_row ends use_item (option_map (read_value T) v) ≡ read_outcome T ends waits o (item_plain v)
  item_is o use_item h k None = ap (ends ActKind.ArrayGet None) (k (Exn (codes "array_index")))
  item_is o use_item h k (Some v) = ap (ends ActKind.ArrayGet None) (h v)

  item_at_read : (vs : List (PlainValue R)) (i : ℤ) → item_at (read_all T vs) i ≡ option_map (read_value T) (plain_item_at vs i)
  item_at_read vs (pos i) = get_read T vs i
  item_at_read vs (negsuc i) = refl

  set_item_is : (r : R) (i : ℤ) (v : PlainValue R) (cell : Option (PlainCell R)) → set_item_row ends waits i (read_value T v) (option_map (read_cell T) cell) ≡ read_outcome T ends waits (SetItem r i (read_value T v)) (set_item_plain i v cell)
  set_item_is r (pos i) v (Some (PlainArray vs)) =
      ap (λ (n : ℕ). if nat_lt i n then ends ActKind.ArraySet (Some (ArrayCell (slice_set (read_all T vs) i (read_value T v)))) (Const Okay) else ends ActKind.ArraySet None array_index) (length_read T vs) ∙ at (nat_lt i (length vs)) where
        at : (c : Bool) → (if c then ends ActKind.ArraySet (Some (ArrayCell (slice_set (read_all T vs) i (read_value T v)))) (Const Okay) else ends ActKind.ArraySet None array_index)
            ≡ read_outcome T ends waits (SetItem r (pos i) (read_value T v)) (if c then PlainEnds ActKind.ArraySet (Some (PlainArray (slice_set vs i v))) (AnswerValue OkayValue) else PlainEnds ActKind.ArraySet None (answer_raises (codes "array_index")))
        at true = ap (λ (l : List (Value R)). ends ActKind.ArraySet (Some (ArrayCell l)) (Const Okay)) (set_read T vs i v)
        at false = refl
  set_item_is r (negsuc i) v (Some (PlainArray vs)) = refl
  set_item_is r (pos i) v None = refl
  set_item_is r (pos i) v (Some (PlainObject flags owner fields)) = refl
  set_item_is r (pos i) v (Some (PlainVariable u)) = refl
  set_item_is r (pos i) v (Some (PlainWriter bytes)) = refl
  set_item_is r (pos i) v (Some (PlainCondition line)) = refl
  set_item_is r (pos i) v (Some (PlainEngine u)) = refl
  set_item_is r (negsuc i) v None = refl
  set_item_is r (negsuc i) v (Some (PlainObject flags owner fields)) = refl
  set_item_is r (negsuc i) v (Some (PlainVariable u)) = refl
  set_item_is r (negsuc i) v (Some (PlainWriter bytes)) = refl
  set_item_is r (negsuc i) v (Some (PlainCondition line)) = refl
  set_item_is r (negsuc i) v (Some (PlainEngine u)) = refl

  set_variable_is : (r : R) (v : PlainValue R) (cell : Option (PlainCell R)) → set_variable_row ends waits (read_value T v) (option_map (read_cell T) cell) ≡ read_outcome T ends waits (SetVariable r (read_value T v)) (set_variable_plain v cell)
  set_variable_is r v None = refl
  set_variable_is r v (Some (PlainObject flags owner fields)) = refl
  set_variable_is r v (Some (PlainArray us)) = refl
  set_variable_is r v (Some (PlainVariable u)) = refl
  set_variable_is r v (Some (PlainWriter bytes)) = refl
  set_variable_is r v (Some (PlainCondition line)) = refl
  set_variable_is r v (Some (PlainEngine u)) = refl

  write_is : (r : R) (text : Bytes) (cell : Option (PlainCell R)) → write_row ends waits text (option_map (read_cell T) cell) ≡ read_outcome T ends waits (Write r text) (write_plain text cell)
  write_is r text None = refl
  write_is r text (Some (PlainObject flags owner fields)) = refl
  write_is r text (Some (PlainArray us)) = refl
  write_is r text (Some (PlainVariable u)) = refl
  write_is r text (Some (PlainWriter bytes)) = refl
  write_is r text (Some (PlainCondition line)) = refl
  write_is r text (Some (PlainEngine u)) = refl

  line_is : (o : Operation R) (kind : ActKind) (f : List ℕ → List ℕ) (focus : Term R) (answer : PlainAnswer R) → focus ≡ left_by T o answer → (cell : Option (PlainCell R)) → line_row ends waits kind f focus (option_map (read_cell T) cell) ≡ read_outcome T ends waits o (line_plain kind f answer cell)
  line_is o kind f focus answer e (Some (PlainCondition line)) = ap (ends kind (Some (ConditionCell (f line)))) e
  line_is o kind f focus answer e None = refl
  line_is o kind f focus answer e (Some (PlainObject flags owner fields)) = refl
  line_is o kind f focus answer e (Some (PlainArray us)) = refl
  line_is o kind f focus answer e (Some (PlainVariable u)) = refl
  line_is o kind f focus answer e (Some (PlainWriter bytes)) = refl
  line_is o kind f focus answer e (Some (PlainEngine u)) = refl

  -- each operation
  pub row_is : (op : PlainOperation R) (scope : Term R) → CompleteOperation T op → (cell : Option (PlainCell R)) → CompleteLeft T cell
      → cell_row eq ends waits t s (read_operation T op scope) (option_map (read_cell T) cell) ≡ read_outcome T ends waits (read_operation T op scope) (plain_row (tree_params T) eq t s op cell)
  row_is (PlainGet o x) scope c cell k =
      object_is o (Get o x) (λ flags owner fields. get_plain (plain_field x fields)) (λ flags owner fields h. ap (get_row ends) (field_read T x fields) ∙ get_is o x (plain_field x fields) (body_complete T x fields h)) cell k
  row_is (PlainInvoke o x vs) scope c cell k =
      object_is o (CallMethod o x (read_all T vs)) (λ flags owner fields. invoke_plain (tree_params T) eq t s o flags owner fields vs (plain_field x fields)) (λ flags owner fields h.
      ap (invoke_row eq ends t s o flags owner (read_fields T fields) (read_all T vs)) (field_read T x fields) ∙ invoke_is o x vs flags owner fields (plain_field x fields) (body_complete T x fields h)) cell k
  row_is (PlainSetValue o x v) scope c cell k =
      object_is o (Set o x (IsValue (read_value T v))) (λ flags owner fields. set_plain eq s o flags owner fields x (ValueBody v) (plain_field x fields)) (λ flags owner fields h.
      ap (set_row eq ends s o flags owner (read_fields T fields) x (IsValue (read_value T v))) (field_read T x fields) ∙ set_is o x (ValueBody v) tt flags owner fields (plain_field x fields) (body_complete T x fields h)) cell k
  row_is (PlainSetMethod o x m) scope c cell k =
      object_is o (Set o x (method_of (read_value T m))) (λ flags owner fields. set_plain eq s o flags owner fields x (MethodBody m) (plain_field x fields)) (λ flags owner fields h.
      ap (set_row eq ends s o flags owner (read_fields T fields) x (method_of (read_value T m))) (field_read T x fields) ∙ set_is o x (MethodBody m) (refused_closed (read_value T m) c.1) flags owner fields (plain_field x fields) (body_complete T x fields h)) cell k
  row_is (PlainSetAlias o x q y) scope c cell k =
      object_is o (Set o x (IsAlias q y)) (λ flags owner fields. set_plain eq s o flags owner fields x (AliasBody q y) (plain_field x fields)) (λ flags owner fields h.
      ap (set_row eq ends s o flags owner (read_fields T fields) x (IsAlias q y)) (field_read T x fields) ∙ set_is o x (AliasBody q y) tt flags owner fields (plain_field x fields) (body_complete T x fields h)) cell k
  row_is (PlainCloning first copied (o ∷ rest)) scope c cell k =
      object_is o (Copy o first (read_fields T copied) rest) (λ flags owner fields. copy_plain eq s o flags fields first copied rest) (λ flags owner fields h. copy_is o first copied rest flags fields) cell k
  row_is (PlainCloning (Some flags) copied []) scope c cell k = refl
  row_is (PlainCloning None copied []) scope c cell k = refl
  row_is (PlainRedirect o target) scope c cell k =
      object_is o (RedirectTo o target) (λ flags owner fields. redirect_plain eq s o flags owner fields target) (λ flags owner fields h. redirect_is o target flags owner fields) cell k
  row_is (PlainLeave o (KeptValue v)) scope c cell k = ap (λ (z : Option (Cell R)). ends ActKind.Leave z (Const (read_value T v))) (owned_read T None cell)
  row_is (PlainLeave o (KeptRaising r)) scope c cell k = ap (λ (z : Option (Cell R)). ends ActKind.Leave z (raising r)) (owned_read T None cell)
  row_is (PlainItemOf r i) scope c cell k =
      ap (λ (l : List (Value R)). item_row ends (λ v. Const v) (item_at l i)) (items_read T cell) ∙ ap (item_row ends (λ v. Const v)) (item_at_read (plain_items cell) i)
      ∙ item_is (GetItem r i) (λ v. Const v) (λ v. refl) (λ q. refl) (plain_item_at (plain_items cell) i)
  row_is (PlainSize r) scope c cell k = ap (λ (l : List (Value R)). ends ActKind.ArrayGet None (Const (Int (pos (length l))))) (items_read T cell) ∙ ap (λ (n : ℕ). ends ActKind.ArrayGet None (Const (Int (pos n)))) (length_read T (plain_items cell))
  row_is (PlainEachSize r) scope c cell k = ap (λ (l : List (Value R)). ends ActKind.ArrayGet None (Form (EachAt r 0 (length l)) (Part scope End))) (items_read T cell) ∙ ap (λ (n : ℕ). ends ActKind.ArrayGet None (Form (EachAt r 0 n) (Part scope End))) (length_read T (plain_items cell))
  row_is (PlainEachItem r i n) scope c cell k =
      ap (λ (l : List (Value R)). item_row ends (λ v. Form (EachIn r i n) (Part (enter (v ∷ []) scope) (Part scope End))) (slice_get l i)) (items_read T cell) ∙ ap (item_row ends (λ v. Form (EachIn r i n) (Part (enter (v ∷ []) scope) (Part scope End)))) (get_read T (plain_items cell) i)
      ∙ item_is (EachItem r i n scope) (λ v. Form (EachIn r i n) (Part (enter (v ∷ []) scope) (Part scope End))) (λ v. refl) (λ q. refl) (slice_get (plain_items cell) i)
  row_is (PlainSetItem r i v) scope c cell k = set_item_is r i v cell
  row_is (PlainRead r) scope c cell k = ap (λ (v : Value R). ends ActKind.VarGet None (Const v)) (value_read T cell)
  row_is (PlainSetVariable r v) scope c cell k = set_variable_is r v cell
  row_is (PlainWrite r text) scope c cell k = write_is r text cell
  row_is (PlainLineUp o d) scope c cell k = line_is (LineUp o d scope) ActKind.Line (λ line. line ++ t ∷ []) (Form (Lined o d) (Part scope End)) (AnswerForm (PlainGiveUp o d)) refl cell
  row_is (PlainGiveUp o d) scope c cell k = ap (λ (z : Option (Cell R)). ends ActKind.GiveUp z (Form (Out o d) (Part scope End))) (owned_read T None cell)
  row_is (PlainSignal d) scope c cell k = line_is (Signal d) ActKind.Signal (drop 1) (Const Okay) (AnswerValue OkayValue) refl cell
  row_is (PlainBroadcast d) scope c cell k = line_is (Broadcast d) ActKind.Broadcast (λ line. []) (Const Okay) (AnswerValue OkayValue) refl cell
  row_is (PlainRunEngine e f) scope c cell k = ap (λ (v : Value R). ends ActKind.Engine None (Form Called (Part (body_with (read_value T f) (v ∷ [])) End))) (value_read T cell)
  row_is (PlainNewArray vs) scope c cell k = refl
  row_is PlainNewCondition scope c cell k = refl
  row_is (PlainNewVariable v) scope c cell k = refl
  row_is (PlainForkOff f) scope c cell k = refl
  row_is (PlainExport x namer v) scope c cell k = refl
  row_is (PlainImport x namer engine) scope c cell k = refl
  row_is (PlainNewEngine x namer v) scope c cell k = refl
  row_is (PlainAgain o d) scope c cell k = refl
  row_is (PlainJoin u) scope c cell k = refl

-- ---- on another cell besides, on a name, and on a new cell

pub again_reads : {R X : Type 0} → AgainReads R X
again_reads {R} {X} T ends waits t lined o c guard cell = ap (λ (free : Bool). if lined || not free then waits else ends ActKind.Again (owned_cell (Some t) (option_map (read_cell T) cell)) (testing o c guard)) (free_read cell) ∙ at (lined || not (is_plain_free cell)) where
  free_read : (cell : Option (PlainCell R)) → is_free (option_map (read_cell T) cell) ≡ is_plain_free cell
  free_read None = refl
  free_read (Some (PlainObject flags None fields)) = refl
  free_read (Some (PlainObject flags (Some u) fields)) = refl
  free_read (Some (PlainArray vs)) = refl
  free_read (Some (PlainVariable v)) = refl
  free_read (Some (PlainWriter bytes)) = refl
  free_read (Some (PlainCondition line)) = refl
  free_read (Some (PlainEngine v)) = refl

  at : (b : Bool) → (if b then waits else ends ActKind.Again (owned_cell (Some t) (option_map (read_cell T) cell)) (testing o c guard)) ≡ read_outcome T ends waits (Again o c guard) (if b then PlainWaits else PlainEnds ActKind.Again (plain_owned (Some t) cell) AnswerTest)
  at true = refl
  at false = ap (λ (z : Option (Cell R)). ends ActKind.Again z (testing o c guard)) (owned_read T (Some t) cell)

pub import_reads : {R X : Type 0} → ImportReads R X
import_reads T ends waits x engine None = refl
import_reads T ends waits x false (Some v) = refl
import_reads T ends waits x true (Some (LocationValue Engine e)) = refl
import_reads T ends waits x true (Some (IntValue z)) = refl
import_reads T ends waits x true (Some (TruthValue z)) = refl
import_reads T ends waits x true (Some OkayValue) = refl
import_reads T ends waits x true (Some (TextValue z)) = refl
import_reads T ends waits x true (Some (ExceptionValue z)) = refl
import_reads T ends waits x true (Some (ThreadValue z)) = refl
import_reads T ends waits x true (Some (LocationValue Object z)) = refl
import_reads T ends waits x true (Some (LocationValue Array z)) = refl
import_reads T ends waits x true (Some (LocationValue Variable z)) = refl
import_reads T ends waits x true (Some (LocationValue Writer z)) = refl
import_reads T ends waits x true (Some (LocationValue Condition z)) = refl
import_reads T ends waits x true (Some (ClosureValue c n group index cs)) =
    closure_cases T (read_values T cs) (proc_of T group index) (λ f. import_row ends waits true (Some f) ≡ ends ActKind.Import None wrong_type) (λ params body. refl) (λ names G i. refl)

made_cell : {R : Type 0} → (c d : PlainCell R) → Some c ≡ Some d → c ≡ d
made_cell c d e = ap (λ (o : Option (PlainCell _)). unwrap_or o c) e

makes : {R : Type 0} → (T : Table R) (op : PlainOperation R) (scope : Term R) (made cell : PlainCell R) (r : R) → Some made ≡ Some cell → MakesCell T op scope made r → MakesCell T op scope cell r
makes {R} T op scope made cell r e h = subst (λ (z : PlainCell R). MakesCell T op scope z r) (made_cell made cell e) h

pub new_reads : {R : Type 0} → NewReads R
new_reads T (PlainNewArray vs) cell e scope r = makes T (PlainNewArray vs) scope (PlainArray vs) cell r e (record { after = Itself; operation = refl; left = refl; complete = λ c. (c, tt) })
new_reads T PlainNewCondition cell e scope r = makes T PlainNewCondition scope (PlainCondition []) cell r e (record { after = Itself; operation = refl; left = refl; complete = λ c. (tt, tt) })
new_reads T (PlainNewVariable v) cell e scope r = makes T (PlainNewVariable v) scope (PlainVariable v) cell r e (record { after = Entered scope; operation = refl; left = refl; complete = λ c. (c, tt) })
new_reads T (PlainNewEngine x namer v) cell e scope r = makes T (PlainNewEngine x namer v) scope (PlainEngine v) cell r e (record { after = Offered x namer; operation = refl; left = refl; complete = λ c. (c, (tt, refl)) })
new_reads T (PlainCloning (Some flags) fields []) cell e scope r = makes T (PlainCloning (Some flags) fields []) scope (PlainObject flags None fields) cell r e (record { after = Itself; operation = refl; left = refl; complete = λ c. (c, tt) })
new_reads T (PlainGet o x) cell e scope r = absurd (true≢false (ap is_some (sym e)))
new_reads T (PlainRead q) cell e scope r = absurd (true≢false (ap is_some (sym e)))
new_reads T (PlainWrite q z) cell e scope r = absurd (true≢false (ap is_some (sym e)))
new_reads T (PlainInvoke o x vs) cell e scope r = absurd (true≢false (ap is_some (sym e)))
new_reads T (PlainItemOf q i) cell e scope r = absurd (true≢false (ap is_some (sym e)))
new_reads T (PlainSize q) cell e scope r = absurd (true≢false (ap is_some (sym e)))
new_reads T (PlainSetVariable q v) cell e scope r = absurd (true≢false (ap is_some (sym e)))
new_reads T (PlainSetItem q i v) cell e scope r = absurd (true≢false (ap is_some (sym e)))
new_reads T (PlainSetValue o x v) cell e scope r = absurd (true≢false (ap is_some (sym e)))
new_reads T (PlainSetAlias o x q y) cell e scope r = absurd (true≢false (ap is_some (sym e)))
new_reads T (PlainSetMethod o x m) cell e scope r = absurd (true≢false (ap is_some (sym e)))
new_reads T (PlainRedirect o q) cell e scope r = absurd (true≢false (ap is_some (sym e)))
new_reads T (PlainLeave o k) cell e scope r = absurd (true≢false (ap is_some (sym e)))
new_reads T (PlainForkOff f) cell e scope r = absurd (true≢false (ap is_some (sym e)))
new_reads T (PlainRunEngine q f) cell e scope r = absurd (true≢false (ap is_some (sym e)))
new_reads T (PlainExport x namer v) cell e scope r = absurd (true≢false (ap is_some (sym e)))
new_reads T (PlainImport x namer engine) cell e scope r = absurd (true≢false (ap is_some (sym e)))
new_reads T (PlainEachSize q) cell e scope r = absurd (true≢false (ap is_some (sym e)))
new_reads T (PlainEachItem q i n) cell e scope r = absurd (true≢false (ap is_some (sym e)))
new_reads T (PlainLineUp o c) cell e scope r = absurd (true≢false (ap is_some (sym e)))
new_reads T (PlainGiveUp o c) cell e scope r = absurd (true≢false (ap is_some (sym e)))
new_reads T (PlainAgain o c) cell e scope r = absurd (true≢false (ap is_some (sym e)))
new_reads T (PlainCloning None fields []) cell e scope r = absurd (true≢false (ap is_some (sym e)))
new_reads T (PlainCloning (Some flags) fields (o ∷ rest)) cell e scope r = absurd (true≢false (ap is_some (sym e)))
new_reads T (PlainCloning None fields (o ∷ rest)) cell e scope r = absurd (true≢false (ap is_some (sym e)))
new_reads T (PlainSignal c) cell e scope r = absurd (true≢false (ap is_some (sym e)))
new_reads T (PlainBroadcast c) cell e scope r = absurd (true≢false (ap is_some (sym e)))
new_reads T (PlainJoin u) cell e scope r = absurd (true≢false (ap is_some (sym e)))

pub threads_read : {R : Type 0} → ThreadsRead R
threads_read T = record { forked = λ f t. refl; not_forked = λ f. refl; returned = λ t v. refl; failed = λ t e. refl; exported = λ x v. refl }
