-- An act of a closed configuration gives one.
use Rattle.std.specs.Prelude.{Bool, List, None, Option, Some, [], bytes_eq, drop, false, if◌then◌else◌, length, nat_le, nat_lt, negsuc, not, pos, refl, slice_get, slice_set, suc, true, unwrap_or, zero, ℕ, ℤ, ◌++◌, ◌==◌, ◌||◌, ◌∷◌, ◌≡◌}
use Rattle.std.proofs.lemmas.Bool.{eqb-true}
use Rattle.obq_base.specs.declared.limits.TheConstants.{THREAD_LIMIT}
use Rattle.obq_base.specs.declared.acts.ActKind.{ActKind}
use Rattle.obq_base.specs.declared.trees.Flags.{Flags}
use Rattle.obq_model.specs.Terms.{Bytes, Object, Variable, Engine, Value, Okay, Thread, Loc, FieldBody, IsValue, IsMethod, IsAlias, Fields, Bare, Field, Call, Within, EachIn, Cloning, Lined, Term, Const, Form, End, Part}
use Rattle.obq_model.specs.Put.{put_all, enter}
use Rattle.obq_model.specs.Exceptions.{raise, arity, array_index, is_protected, fork_limit}
use Rattle.obq_model.specs.Store.{Cell, ObjectCell, ArrayCell, VariableCell, WriterCell, ConditionCell, EngineCell, Store, same_loc, field, with_field, append_fields, aliased, exported, export}
use Rattle.obq_model.specs.Step.{Self, After, Itself, Entered, Offered, Operation, New, Get, CallMethod, Leave, Set, Copy, RedirectTo, GetItem, GetSize, EachSize, EachItem, SetItem, ReadVariable, SetVariable, Write, ForkOff, JoinWith, LineUp, GiveUp, Again, Signal, Broadcast, Export, Import, RunEngine, values_before, params_of, body_with, testing}
use Rattle.obq_model.specs.Config.{Execution, Running, Returned, Failed, ThreadState, Config, cell_at, with_cell}
use Rattle.obq_model.specs.Cells.{is_clear, is_refused, mode_for, owner_for, set_at_target, is_alias, items_of, item_at, value_of, is_free, after_new}
use Rattle.obq_model.specs.Effect.{Outcome, Waiting, Acting, Forking, get, invoke, set_here, set_field, on_object, at_object, item, set_item, set_variable, write, with_line, owned_by, line_of, in_line, imported, joined, perform}
use Rattle.obq_laws.specs.Closing.{no_name, within, IsClosed, AreClosed, IsClosedValue, AreClosedFields, IsClosedField, AllClosed, IsClosedCell, AreClosedCells, AreClosedNames, IsClosedStore, IsClosedExecution, AreClosedThreads, IsClosedConfig}
use Rattle.obq_laws.specs.Known.{HasOneParameter}
use Rattle.obq_laws.specs.Shaping.{IsShapedAfter, ShapedOperation}
use Rattle.obq_laws.proofs.ClosedStep.{IsClosedAfter, IsClosedOperation, covers_own, closed_put_all, closed_enter, closed_body}

abbrev pub ClosedOutcome : Outcome → Type 0
ClosedOutcome Waiting = Unit {0}
ClosedOutcome (Acting kind loc st focus) = IsClosedStore st × IsClosed no_name focus
ClosedOutcome (Forking loc new focus) = IsClosed no_name new × IsClosed no_name focus

abbrev IsClosedSome : Option (Cell ℕ) → Type 0
IsClosedSome None = Unit {0}
IsClosedSome (Some c) = IsClosedCell c

abbrev IsClosedBodyOf : Option (FieldBody ℕ) → Type 0
IsClosedBodyOf None = Unit {0}
IsClosedBodyOf (Some b) = IsClosedField b

abbrev IsClosedItem : Option (Value ℕ) → Type 0
IsClosedItem None = Unit {0}
IsClosedItem (Some v) = IsClosedValue v

outcome_if : (b : Bool) (x y : Outcome) → ClosedOutcome x → ClosedOutcome y → ClosedOutcome (if b then x else y)
outcome_if true x y h k = h
outcome_if false x y h k = k

-- the first only where the test holds
outcome_where : (b : Bool) (x y : Outcome) → (b ≡ true → ClosedOutcome x) → ClosedOutcome y → ClosedOutcome (if b then x else y)
outcome_where true x y h k = h refl
outcome_where false x y h k = k

-- ---- lists

closed_get : (cs : List (Cell ℕ)) (k : ℕ) → AreClosedCells cs → IsClosedSome (slice_get cs k)
closed_get [] k h = tt
closed_get (c ∷ cs) zero h = h.0
closed_get (c ∷ cs) (suc k) h = closed_get cs k h.1

closed_set : (cs : List (Cell ℕ)) (k : ℕ) (c : Cell ℕ) → AreClosedCells cs → IsClosedCell c → AreClosedCells (slice_set cs k c)
closed_set [] k c h i = tt
closed_set (d ∷ cs) zero c h i = (i, h.1)
closed_set (d ∷ cs) (suc k) c h i = (h.0, closed_set cs k c h.1 i)

closed_new : (cs : List (Cell ℕ)) (c : Cell ℕ) → AreClosedCells cs → IsClosedCell c → AreClosedCells (cs ++ c ∷ [])
closed_new [] c h i = (i, tt)
closed_new (d ∷ cs) c h i = (h.0, closed_new cs c h.1 i)

with_cell_closed : (st : Store ℕ) (k : ℕ) (c : Cell ℕ) → IsClosedStore st → IsClosedCell c → IsClosedStore (with_cell st k c)
with_cell_closed st k c s h = (closed_set st.cells k c s.0 h, s.1)

closed_values : (vs : List (Value ℕ)) → AllClosed vs → AreClosed no_name (values_before vs End)
closed_values [] h = tt
closed_values (v ∷ vs) h = (h.0, closed_values vs h.1)

-- ---- fields

body_if : (b : Bool) (x y : Option (FieldBody ℕ)) → IsClosedBodyOf x → IsClosedBodyOf y → IsClosedBodyOf (if b then x else y)
body_if true x y h k = h
body_if false x y h k = k

fields_if : (b : Bool) (x y : Fields ℕ) → AreClosedFields x → AreClosedFields y → AreClosedFields (if b then x else y)
fields_if true x y h k = h
fields_if false x y h k = k

closed_field : (x : Bytes) (fs : Fields ℕ) → AreClosedFields fs → IsClosedBodyOf (field x fs)
closed_field x Bare h = tt
closed_field x (Field y body fs) h = body_if (bytes_eq x y) (Some body) (field x fs) h.0 (closed_field x fs h.1)

closed_with_field : (x : Bytes) (body : FieldBody ℕ) (fs : Fields ℕ) → IsClosedField body → AreClosedFields fs → AreClosedFields (with_field x body fs)
closed_with_field x body Bare i h = tt
closed_with_field x body (Field y old fs) i h = fields_if (bytes_eq x y) (Field y body fs) (Field y old (with_field x body fs)) (i, h.1) (h.0, closed_with_field x body fs i h.1)

closed_append : (fs gs : Fields ℕ) → AreClosedFields fs → AreClosedFields gs → AreClosedFields (append_fields fs gs)
closed_append Bare gs h k = k
closed_append (Field x body fs) gs h k = (h.0, closed_append fs gs h.1 k)

closed_aliased : (p : ℕ) (fs : Fields ℕ) → AreClosedFields (aliased p fs)
closed_aliased p Bare = tt
closed_aliased p (Field x body fs) = (tt, closed_aliased p fs)

-- ---- operations on an object

closed_get_row : (st : Store ℕ) (o : ℕ) (b : Option (FieldBody ℕ)) → IsClosedStore st → IsClosedBodyOf b → ClosedOutcome (get st o b)
closed_get_row st o None s h = (s, (tt, tt))
closed_get_row st o (Some (IsValue v)) s h = (s, h)
closed_get_row st o (Some (IsMethod params body)) s h = (s, (tt, tt))
closed_get_row st o (Some (IsAlias p y)) s h = (s, (tt, (tt, tt)))

closed_invoke : (st : Store ℕ) (t : ℕ) (s : Self ℕ) (o : ℕ) (flags : Flags) (owner : Option ℕ) (fields : Fields ℕ) (vs : List (Value ℕ)) (b : Option (FieldBody ℕ)) → IsClosedStore st → AreClosedFields fields → AllClosed vs → IsClosedBodyOf b → ClosedOutcome (invoke st t s o flags owner fields vs b)
closed_invoke st t s o flags owner fields vs None i f k h = (i, (tt, tt))
closed_invoke st t s o flags owner fields vs (Some (IsValue v)) i f k h = (i, (tt, tt))
closed_invoke st t s o flags owner fields vs (Some (IsAlias p y)) i f k h = (i, (tt, (tt, closed_values vs k)))
closed_invoke st t s o flags owner fields vs (Some (IsMethod params body)) i f k h =
    outcome_where (length params == suc (length vs))
    (Acting ActKind.Call o (with_cell st o (ObjectCell flags (owner_for same_loc s o flags t owner) fields)) (Form (Within o (mode_for same_loc s o flags)) (Part (put_all (Loc Object o ∷ vs) params body) End)))
    (Acting ActKind.Call o st arity)
    (λ e. (with_cell_closed st o (ObjectCell flags (owner_for same_loc s o flags t owner) fields) i f, (tt, (closed_put_all (within params no_name) no_name (Loc Object o ∷ vs) params body (eqb-true (length params) (suc (length vs)) e) (tt, k) (covers_own params no_name) h, tt))))
    (i, (tt, tt))

closed_set_target : (p : ℕ) (y : Bytes) (body : FieldBody ℕ) → IsClosedField body → IsClosed no_name (set_at_target p y body)
closed_set_target p y (IsValue v) h = (tt, (tt, (h, tt)))
closed_set_target p y (IsMethod params body) h = (tt, (tt, (h, tt)))
closed_set_target p y (IsAlias q z) h = (tt, (tt, (tt, tt)))

closed_set_here : (st : Store ℕ) (s : Self ℕ) (o : ℕ) (flags : Flags) (owner : Option ℕ) (fields : Fields ℕ) (x : Bytes) (body : FieldBody ℕ) → IsClosedStore st → AreClosedFields fields → IsClosedField body → ClosedOutcome (set_here st s o flags owner fields x body)
closed_set_here st s o flags owner fields x body i f h =
    outcome_if (is_refused same_loc s o flags) (Acting ActKind.Set o st is_protected) (Acting ActKind.Set o (with_cell st o (ObjectCell flags owner (with_field x body fields))) (Const Okay))
    (i, (tt, tt)) (with_cell_closed st o (ObjectCell flags owner (with_field x body fields)) i (closed_with_field x body fields h f), tt)

closed_set_row : (st : Store ℕ) (s : Self ℕ) (o : ℕ) (flags : Flags) (owner : Option ℕ) (fields : Fields ℕ) (x : Bytes) (body : FieldBody ℕ) (b : Option (FieldBody ℕ)) → IsClosedStore st → AreClosedFields fields → IsClosedField body → ClosedOutcome (set_field st s o flags owner fields x body b)
closed_set_row st s o flags owner fields x body None i f h = (i, (tt, tt))
closed_set_row st s o flags owner fields x body (Some (IsAlias p y)) i f h =
    outcome_if (is_alias body) (set_here st s o flags owner fields x body) (Acting ActKind.Hop o st (set_at_target p y body)) (closed_set_here st s o flags owner fields x body i f h) (i, closed_set_target p y body h)
closed_set_row st s o flags owner fields x body (Some (IsValue v)) i f h = closed_set_here st s o flags owner fields x body i f h
closed_set_row st s o flags owner fields x body (Some (IsMethod params b)) i f h = closed_set_here st s o flags owner fields x body i f h

closed_on_object : (st : Store ℕ) (t : ℕ) (s : Self ℕ) (o : ℕ) (op : Operation ℕ) (flags : Flags) (owner : Option ℕ) (fields : Fields ℕ) → IsClosedStore st → AreClosedFields fields → IsClosedOperation op → ClosedOutcome (on_object st t s o op flags owner fields)
closed_on_object st t s o (Get p x) flags owner fields i f h = closed_get_row st o (field x fields) i (closed_field x fields f)
closed_on_object st t s o (CallMethod p x vs) flags owner fields i f h = closed_invoke st t s o flags owner fields vs (field x fields) i f h (closed_field x fields f)
closed_on_object st t s o (Set p x body) flags owner fields i f h = closed_set_row st s o flags owner fields x body (field x fields) i f h
closed_on_object st t s o (Copy p first copied rest) flags owner fields i f h =
    outcome_if (is_refused same_loc s o flags) (Acting ActKind.Copy o st is_protected) (Acting ActKind.Copy o st (Form (Cloning (Some (unwrap_or first flags)) (append_fields copied fields) rest) End))
    (i, (tt, tt)) (i, (closed_append copied fields h f, tt))
closed_on_object st t s o (RedirectTo p target) flags owner fields i f h =
    outcome_if (is_refused same_loc s o flags) (Acting ActKind.Redirect o st is_protected) (Acting ActKind.Redirect o (with_cell st o (ObjectCell flags owner (aliased target fields))) (Const Okay))
    (i, (tt, tt)) (with_cell_closed st o (ObjectCell flags owner (aliased target fields)) i (closed_aliased target fields), tt)
closed_on_object st t s o _ flags owner fields i f h = tt

closed_at_object : (st : Store ℕ) (t : ℕ) (s : Self ℕ) (o : ℕ) (op : Operation ℕ) (c : Option (Cell ℕ)) → IsClosedStore st → IsClosedSome c → IsClosedOperation op → ClosedOutcome (at_object st t s o op c)
closed_at_object st t s o op (Some (ObjectCell flags owner fields)) i c h = outcome_if (is_clear same_loc s o flags owner) (on_object st t s o op flags owner fields) Waiting (closed_on_object st t s o op flags owner fields i c h) tt
closed_at_object st t s o op _ i c h = tt

-- ---- the other operations

owned_closed : (owner : Option ℕ) (st : Store ℕ) (o : ℕ) (c : Option (Cell ℕ)) → IsClosedStore st → IsClosedSome c → IsClosedStore (owned_by owner st o c)
owned_closed owner st o (Some (ObjectCell flags old fields)) i h = with_cell_closed st o (ObjectCell flags owner fields) i h
owned_closed owner st o _ i h = i

array_closed : (c : Option (Cell ℕ)) → IsClosedSome c → AllClosed (items_of c)
array_closed (Some (ArrayCell vs)) h = h
array_closed _ h = tt

item_closed : (vs : List (Value ℕ)) (k : ℕ) → AllClosed vs → IsClosedItem (slice_get vs k)
item_closed [] k h = tt
item_closed (v ∷ vs) zero h = h.0
item_closed (v ∷ vs) (suc k) h = item_closed vs k h.1

closed_item_at : (vs : List (Value ℕ)) (i : ℤ) → AllClosed vs → IsClosedItem (item_at vs i)
closed_item_at vs (pos i) h = item_closed vs i h
closed_item_at vs (negsuc i) h = tt

closed_replace : (vs : List (Value ℕ)) (k : ℕ) (v : Value ℕ) → AllClosed vs → IsClosedValue v → AllClosed (slice_set vs k v)
closed_replace [] k v h i = tt
closed_replace (w ∷ vs) zero v h i = (i, h.1)
closed_replace (w ∷ vs) (suc k) v h i = (h.0, closed_replace vs k v h.1 i)

closed_set_item : (st : Store ℕ) (a : ℕ) (i : ℤ) (v : Value ℕ) (c : Option (Cell ℕ)) → IsClosedStore st → IsClosedSome c → IsClosedValue v → ClosedOutcome (set_item st a i v c)
closed_set_item st a (pos i) v (Some (ArrayCell vs)) s h k =
    outcome_if (nat_lt i (length vs)) (Acting ActKind.ArraySet a (with_cell st a (ArrayCell (slice_set vs i v))) (Const Okay)) (Acting ActKind.ArraySet a st array_index)
    (with_cell_closed st a (ArrayCell (slice_set vs i v)) s (closed_replace vs i v h k), tt) (s, (tt, tt))
closed_set_item st a (negsuc i) v (Some (ArrayCell vs)) s h k = (s, (tt, tt))
closed_set_item st a i v _ s h k = tt

closed_set_variable : (st : Store ℕ) (l : ℕ) (v : Value ℕ) (c : Option (Cell ℕ)) → IsClosedStore st → IsClosedValue v → ClosedOutcome (set_variable st l v c)
closed_set_variable st l v (Some (VariableCell old)) s h = (with_cell_closed st l (VariableCell v) s h, tt)
closed_set_variable st l v _ s h = tt

closed_write : (st : Store ℕ) (w : ℕ) (t : Bytes) (c : Option (Cell ℕ)) → IsClosedStore st → ClosedOutcome (write st w t c)
closed_write st w t (Some (WriterCell old)) s = (with_cell_closed st w (WriterCell (old ++ t)) s tt, tt)
closed_write st w t _ s = tt

closed_line : (kind : ActKind) (st : Store ℕ) (q : ℕ) (f : List ℕ → List ℕ) (focus : Term ℕ) (c : Option (Cell ℕ)) → IsClosedStore st → IsClosed no_name focus → ClosedOutcome (with_line kind st q f focus c)
closed_line kind st q f focus (Some (ConditionCell line)) s h = (with_cell_closed st q (ConditionCell (f line)) s tt, h)
closed_line kind st q f focus _ s h = tt

closed_value : (c : Option (Cell ℕ)) → IsClosedSome c → IsClosedValue (value_of c)
closed_value (Some (VariableCell v)) h = h
closed_value (Some (EngineCell v)) h = h
closed_value _ h = tt

closed_after : (after : After ℕ) (n : ℕ) (c : Cell ℕ) → IsShapedAfter after → IsClosedAfter after → IsClosed no_name (after_new after n c)
closed_after Itself n (ObjectCell flags owner fields) w h = tt
closed_after Itself n (ArrayCell vs) w h = tt
closed_after Itself n (VariableCell v) w h = tt
closed_after Itself n (WriterCell bytes) w h = tt
closed_after Itself n (ConditionCell line) w h = tt
closed_after Itself n (EngineCell v) w h = tt
closed_after (Entered scope) n c w h = closed_enter (Loc Variable n) scope w tt h
closed_after (Offered name namer) n c w h = (tt, (tt, (tt, (tt, tt))))

item_if : (b : Bool) (v w : Option (Value ℕ)) → IsClosedItem v → IsClosedItem w → IsClosedItem (if b then v else w)
item_if true v w h k = h
item_if false v w h k = k

closed_exported : (x : Bytes) (es : List (Bytes × Value ℕ)) → AreClosedNames es → IsClosedItem (exported x es)
closed_exported x [] h = tt
closed_exported x (e ∷ es) h = item_if (bytes_eq x e.0) (Some e.1) (exported x es) h.0 (closed_exported x es h.1)

names_if : (b : Bool) (v w : List (Bytes × Value ℕ)) → AreClosedNames v → AreClosedNames w → AreClosedNames (if b then v else w)
names_if true v w h k = h
names_if false v w h k = k

closed_export : (x : Bytes) (v : Value ℕ) (es : List (Bytes × Value ℕ)) → IsClosedValue v → AreClosedNames es → AreClosedNames (export x v es)
closed_export x v [] i h = (i, tt)
closed_export x v (e ∷ es) i h = names_if (bytes_eq x e.0) ((x, v) ∷ es) (e ∷ export x v es) (i, h.1) (h.0, closed_export x v es i h.1)

closed_imported : (st : Store ℕ) (e : Bool) (v : Option (Value ℕ)) → IsClosedStore st → IsClosedItem v → ClosedOutcome (imported st e v)
closed_imported st e None s h = tt
closed_imported st false (Some v) s h = (s, h)
closed_imported st true (Some (Loc Engine n)) s h = (s, tt)
closed_imported st true (Some _) s h = (s, (tt, tt))

closed_joined : (st : Store ℕ) (u : ℕ) (ts : List ThreadState) (n : ℕ) → IsClosedStore st → AreClosedThreads ts → ClosedOutcome (joined st u (slice_get ts n))
closed_joined st u [] n s h = tt
closed_joined st u (t ∷ ts) zero s h = by_execution t.execution h.0
  where
    by_execution : (l : Execution) → IsClosedExecution l → ClosedOutcome (elim l [ Running t ↦ Waiting | Returned v ↦ Acting ActKind.Join u st (Const v) | Failed e ↦ Acting ActKind.Join u st (raise e) ])
    by_execution (Running t) h = tt
    by_execution (Returned v) h = (s, h)
    by_execution (Failed e) h = (s, (tt, tt))
closed_joined st u (t ∷ ts) (suc n) s h = closed_joined st u ts n s h.1

closed_item_row : (st : Store ℕ) (a : ℕ) (f : Value ℕ → Term ℕ) (v : Option (Value ℕ)) → IsClosedStore st → IsClosedItem v → ((w : Value ℕ) → IsClosedValue w → IsClosed no_name (f w)) → ClosedOutcome (item st a f v)
closed_item_row st a f None s h g = (s, (tt, tt))
closed_item_row st a f (Some v) s h g = (s, g v h)

-- an engine's closure with the engine's value
closed_run : (f v : Value ℕ) (o : Option (List Bytes)) → params_of f ≡ o → HasOneParameter o → IsClosedValue f → IsClosedValue v → IsClosed no_name (body_with f (v ∷ []))
closed_run f v None q one h k = absurd one
closed_run f v (Some params) q one h k = closed_body f (v ∷ []) params q one h (k, tt)

-- what any operation comes to
pub closed_perform : (k : Config) (t : ℕ) (s : Self ℕ) (op : Operation ℕ) → IsClosedConfig k → ShapedOperation op → IsClosedOperation op → ClosedOutcome (perform k t s op)
closed_perform k t s (New cell after) c w h = ((closed_new k.store.cells cell c.0.0 h.0, c.0.1), closed_after after (length k.store.cells) cell w.1 h.1)
closed_perform k t s (Get o x) c w h = closed_at_object k.store t s o (Get o x) (cell_at k.store o) c.0 (closed_get k.store.cells o c.0.0) h
closed_perform k t s (CallMethod o x vs) c w h = closed_at_object k.store t s o (CallMethod o x vs) (cell_at k.store o) c.0 (closed_get k.store.cells o c.0.0) h
closed_perform k t s (Set o x body) c w h = closed_at_object k.store t s o (Set o x body) (cell_at k.store o) c.0 (closed_get k.store.cells o c.0.0) h
closed_perform k t s (Copy o first copied rest) c w h = closed_at_object k.store t s o (Copy o first copied rest) (cell_at k.store o) c.0 (closed_get k.store.cells o c.0.0) h
closed_perform k t s (RedirectTo o target) c w h = closed_at_object k.store t s o (RedirectTo o target) (cell_at k.store o) c.0 (closed_get k.store.cells o c.0.0) h
closed_perform k t s (Leave o left) c w h = (owned_closed None k.store o (cell_at k.store o) c.0 (closed_get k.store.cells o c.0.0), h)
closed_perform k t s (GetItem a i) c w h = closed_item_row k.store a (λ v. Const v) (item_at (items_of (cell_at k.store a)) i) c.0 (closed_item_at (items_of (cell_at k.store a)) i (array_closed (cell_at k.store a) (closed_get k.store.cells a c.0.0))) (λ w g. g)
closed_perform k t s (GetSize a) c w h = (c.0, tt)
closed_perform k t s (EachSize a scope) c w h = (c.0, (tt, (h, tt)))
closed_perform k t s (EachItem a i n scope) c w h =
    closed_item_row k.store a (λ v. Form (EachIn a i n) (Part (enter (v ∷ []) scope) (Part scope End))) (slice_get (items_of (cell_at k.store a)) i) c.0 (item_closed (items_of (cell_at k.store a)) i (array_closed (cell_at k.store a) (closed_get k.store.cells a c.0.0)))
    (λ v g. (tt, (closed_enter v scope w g h, (h, tt))))
closed_perform k t s (SetItem a i v) c w h = closed_set_item k.store a i v (cell_at k.store a) c.0 (closed_get k.store.cells a c.0.0) h
closed_perform k t s (ReadVariable l) c w h = (c.0, closed_value (cell_at k.store l) (closed_get k.store.cells l c.0.0))
closed_perform k t s (SetVariable l v) c w h = closed_set_variable k.store l v (cell_at k.store l) c.0 h
closed_perform k t s (Write r text) c w h = closed_write k.store r text (cell_at k.store r) c.0
closed_perform k t s (ForkOff f) c w h =
    outcome_if (nat_le THREAD_LIMIT (length k.threads)) (Acting ActKind.Fork THREAD_LIMIT k.store fork_limit) (Forking (length k.threads) (Form Call (Part (Const f) End)) (Const (Thread (length k.threads))))
    (c.0, (tt, tt)) ((tt, (h, tt)), tt)
closed_perform k t s (JoinWith u) c w h = closed_joined k.store u k.threads u c.0 c.1
closed_perform k t s (LineUp o q guard) c w h = closed_line ActKind.Line k.store q (λ line. line ++ t ∷ []) (Form (Lined o q) (Part guard End)) (cell_at k.store q) c.0 (tt, (h, tt))
closed_perform k t s (GiveUp o q guard) c w h = (owned_closed None k.store o (cell_at k.store o) c.0 (closed_get k.store.cells o c.0.0), (tt, (h, tt)))
closed_perform k t s (Again o q guard) c w h =
    outcome_if (in_line t (line_of (cell_at k.store q)) || not (is_free (cell_at k.store o))) Waiting (Acting ActKind.Again o (owned_by (Some t) k.store o (cell_at k.store o)) (testing o q guard))
    tt (owned_closed (Some t) k.store o (cell_at k.store o) c.0 (closed_get k.store.cells o c.0.0), (tt, (h, (h, tt))))
closed_perform k t s (Signal q) c w h = closed_line ActKind.Signal k.store q (drop 1) (Const Okay) (cell_at k.store q) c.0 tt
closed_perform k t s (Broadcast q) c w h = closed_line ActKind.Broadcast k.store q (λ line. []) (Const Okay) (cell_at k.store q) c.0 tt
closed_perform k t s (Export x v) c w h = ((c.0.0, closed_export x v k.store.names h c.0.1), tt)
closed_perform k t s (Import x e) c w h = closed_imported k.store e (exported x k.store.names) c.0 (closed_exported x k.store.names c.0.1)
closed_perform k t s (RunEngine e f) c w h = (c.0, (tt, (closed_run f (value_of (cell_at k.store e)) (params_of f) refl h.1 h.0 (closed_value (cell_at k.store e) (closed_get k.store.cells e c.0.0)), tt)))
