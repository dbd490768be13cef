-- An act of a rightly shaped configuration gives one.
use Rattle.std.specs.Prelude.{Bool, List, None, Option, Some, [], bytes_eq, drop, false, if◌then◌else◌, length, nat_le, nat_lt, negsuc, not, pos, slice_get, slice_set, suc, true, unwrap_or, zero, ℕ, ℤ, ◌++◌, ◌==◌, ◌||◌, ◌∷◌}
use Rattle.obq_base.specs.declared.limits.TheConstants.{THREAD_LIMIT}
use Rattle.obq_base.specs.declared.acts.ActKind.{ActKind}
use Rattle.obq_base.specs.declared.trees.Flags.{Flags}
use Rattle.obq_model.specs.Terms.{Bytes, Object, Variable, Engine, Value, Okay, Thread, Loc, FieldBody, IsValue, IsMethod, IsAlias, Fields, Bare, Field, Call, Within, EachIn, Cloning, Lined, Term, Const, Form, End, Part}
use Rattle.obq_model.specs.Put.{put_all, enter}
use Rattle.obq_model.specs.Exceptions.{raise, arity, array_index, is_protected, fork_limit}
use Rattle.obq_model.specs.Store.{Cell, ObjectCell, ArrayCell, VariableCell, WriterCell, ConditionCell, EngineCell, Store, same_loc, field, with_field, append_fields, aliased, exported, export}
use Rattle.obq_model.specs.Step.{Self, After, Itself, Entered, Offered, Operation, New, Get, CallMethod, Leave, Set, Copy, RedirectTo, GetItem, GetSize, EachSize, EachItem, SetItem, ReadVariable, SetVariable, Write, ForkOff, JoinWith, LineUp, GiveUp, Again, Signal, Broadcast, Export, Import, RunEngine, values_before, testing}
use Rattle.obq_model.specs.Shapes.{Terms, IsShaped, AreShaped, IsShapedValue, AreShapedFields, IsShapedField}
use Rattle.obq_model.specs.Config.{Execution, Running, Returned, Failed, ThreadState, Config, cell_at, with_cell}
use Rattle.obq_model.specs.Cells.{is_clear, is_refused, mode_for, owner_for, set_at_target, is_alias, items_of, item_at, value_of, is_free, after_new}
use Rattle.obq_model.specs.Effect.{Outcome, Waiting, Acting, Forking, get, invoke, set_here, set_field, on_object, at_object, item, set_item, set_variable, write, with_line, owned_by, line_of, in_line, imported, joined, perform}
use Rattle.obq_laws.specs.Shaping.{AllShaped, IsShapedCell, IsShapedAfter, ShapedOperation, AreShapedCells, AreShapedNames, IsShapedStore, IsShapedExecution, AreShapedThreads, IsShapedConfig}
use Rattle.obq_laws.proofs.ShapedPut.{shaped_put_all, shaped_enter, one_scope, shaped_body}

abbrev pub ShapedOutcome : Outcome → Type 0
ShapedOutcome Waiting = Unit {0}
ShapedOutcome (Acting kind loc st focus) = IsShapedStore st × IsShaped focus
ShapedOutcome (Forking loc new focus) = IsShaped new × IsShaped focus

abbrev IsShapedSome : Option (Cell ℕ) → Type 0
IsShapedSome None = Unit {0}
IsShapedSome (Some c) = IsShapedCell c

abbrev IsShapedBodyOf : Option (FieldBody ℕ) → Type 0
IsShapedBodyOf None = Unit {0}
IsShapedBodyOf (Some b) = IsShapedField b

abbrev IsShapedItem : Option (Value ℕ) → Type 0
IsShapedItem None = Unit {0}
IsShapedItem (Some v) = IsShapedValue v

outcome_if : (b : Bool) (x y : Outcome) → ShapedOutcome x → ShapedOutcome y → ShapedOutcome (if b then x else y)
outcome_if true x y h k = h
outcome_if false x y h k = k

-- ---- lists

shaped_get : (cs : List (Cell ℕ)) (k : ℕ) → AreShapedCells cs → IsShapedSome (slice_get cs k)
shaped_get [] k h = tt
shaped_get (c ∷ cs) zero h = h.0
shaped_get (c ∷ cs) (suc k) h = shaped_get cs k h.1

shaped_set : (cs : List (Cell ℕ)) (k : ℕ) (c : Cell ℕ) → AreShapedCells cs → IsShapedCell c → AreShapedCells (slice_set cs k c)
shaped_set [] k c h i = tt
shaped_set (d ∷ cs) zero c h i = (i, h.1)
shaped_set (d ∷ cs) (suc k) c h i = (h.0, shaped_set cs k c h.1 i)

shaped_new : (cs : List (Cell ℕ)) (c : Cell ℕ) → AreShapedCells cs → IsShapedCell c → AreShapedCells (cs ++ c ∷ [])
shaped_new [] c h i = (i, tt)
shaped_new (d ∷ cs) c h i = (h.0, shaped_new cs c h.1 i)

with_cell_shaped : (st : Store ℕ) (k : ℕ) (c : Cell ℕ) → IsShapedStore st → IsShapedCell c → IsShapedStore (with_cell st k c)
with_cell_shaped st k c s h = (shaped_set st.cells k c s.0 h, s.1)

shaped_values : (vs : List (Value ℕ)) → AllShaped vs → AreShaped Terms (values_before vs End)
shaped_values [] h = tt
shaped_values (v ∷ vs) h = (h.0, shaped_values vs h.1)

-- ---- fields

body_if : (b : Bool) (x y : Option (FieldBody ℕ)) → IsShapedBodyOf x → IsShapedBodyOf y → IsShapedBodyOf (if b then x else y)
body_if true x y h k = h
body_if false x y h k = k

fields_if : (b : Bool) (x y : Fields ℕ) → AreShapedFields x → AreShapedFields y → AreShapedFields (if b then x else y)
fields_if true x y h k = h
fields_if false x y h k = k

shaped_field : (x : Bytes) (fs : Fields ℕ) → AreShapedFields fs → IsShapedBodyOf (field x fs)
shaped_field x Bare h = tt
shaped_field x (Field y body fs) h = body_if (bytes_eq x y) (Some body) (field x fs) h.0 (shaped_field x fs h.1)

shaped_with_field : (x : Bytes) (body : FieldBody ℕ) (fs : Fields ℕ) → IsShapedField body → AreShapedFields fs → AreShapedFields (with_field x body fs)
shaped_with_field x body Bare i h = tt
shaped_with_field x body (Field y old fs) i h = fields_if (bytes_eq x y) (Field y body fs) (Field y old (with_field x body fs)) (i, h.1) (h.0, shaped_with_field x body fs i h.1)

shaped_append : (fs gs : Fields ℕ) → AreShapedFields fs → AreShapedFields gs → AreShapedFields (append_fields fs gs)
shaped_append Bare gs h k = k
shaped_append (Field x body fs) gs h k = (h.0, shaped_append fs gs h.1 k)

shaped_aliased : (p : ℕ) (fs : Fields ℕ) → AreShapedFields (aliased p fs)
shaped_aliased p Bare = tt
shaped_aliased p (Field x body fs) = (tt, shaped_aliased p fs)

-- ---- operations on an object

shaped_get_row : (st : Store ℕ) (o : ℕ) (b : Option (FieldBody ℕ)) → IsShapedStore st → IsShapedBodyOf b → ShapedOutcome (get st o b)
shaped_get_row st o None s h = (s, (tt, tt))
shaped_get_row st o (Some (IsValue v)) s h = (s, h)
shaped_get_row st o (Some (IsMethod params body)) s h = (s, (tt, tt))
shaped_get_row st o (Some (IsAlias p y)) s h = (s, (tt, (tt, tt)))

shaped_invoke : (st : Store ℕ) (t : ℕ) (s : Self ℕ) (o : ℕ) (flags : Flags) (owner : Option ℕ) (fields : Fields ℕ) (vs : List (Value ℕ)) (b : Option (FieldBody ℕ)) → IsShapedStore st → AreShapedFields fields → AllShaped vs → IsShapedBodyOf b → ShapedOutcome (invoke st t s o flags owner fields vs b)
shaped_invoke st t s o flags owner fields vs None i f k h = (i, (tt, tt))
shaped_invoke st t s o flags owner fields vs (Some (IsValue v)) i f k h = (i, (tt, tt))
shaped_invoke st t s o flags owner fields vs (Some (IsAlias p y)) i f k h = (i, (tt, (tt, shaped_values vs k)))
shaped_invoke st t s o flags owner fields vs (Some (IsMethod params body)) i f k h =
    outcome_if (length params == suc (length vs))
    (Acting ActKind.Call o (with_cell st o (ObjectCell flags (owner_for same_loc s o flags t owner) fields)) (Form (Within o (mode_for same_loc s o flags)) (Part (put_all (Loc Object o ∷ vs) params body) End)))
    (Acting ActKind.Call o st arity)
    (with_cell_shaped st o (ObjectCell flags (owner_for same_loc s o flags t owner) fields) i f, (tt, (shaped_put_all (Loc Object o ∷ vs) params body (tt, k) h, tt)))
    (i, (tt, tt))

shaped_set_target : (p : ℕ) (y : Bytes) (body : FieldBody ℕ) → IsShapedField body → IsShaped (set_at_target p y body)
shaped_set_target p y (IsValue v) h = (tt, (tt, (h, tt)))
shaped_set_target p y (IsMethod params body) h = (tt, (tt, (h, tt)))
shaped_set_target p y (IsAlias q z) h = (tt, (tt, (tt, tt)))

shaped_set_here : (st : Store ℕ) (s : Self ℕ) (o : ℕ) (flags : Flags) (owner : Option ℕ) (fields : Fields ℕ) (x : Bytes) (body : FieldBody ℕ) → IsShapedStore st → AreShapedFields fields → IsShapedField body → ShapedOutcome (set_here st s o flags owner fields x body)
shaped_set_here st s o flags owner fields x body i f h =
    outcome_if (is_refused same_loc s o flags) (Acting ActKind.Set o st is_protected) (Acting ActKind.Set o (with_cell st o (ObjectCell flags owner (with_field x body fields))) (Const Okay))
    (i, (tt, tt)) (with_cell_shaped st o (ObjectCell flags owner (with_field x body fields)) i (shaped_with_field x body fields h f), tt)

shaped_set_row : (st : Store ℕ) (s : Self ℕ) (o : ℕ) (flags : Flags) (owner : Option ℕ) (fields : Fields ℕ) (x : Bytes) (body : FieldBody ℕ) (b : Option (FieldBody ℕ)) → IsShapedStore st → AreShapedFields fields → IsShapedField body → ShapedOutcome (set_field st s o flags owner fields x body b)
shaped_set_row st s o flags owner fields x body None i f h = (i, (tt, tt))
shaped_set_row st s o flags owner fields x body (Some (IsAlias p y)) i f h =
    outcome_if (is_alias body) (set_here st s o flags owner fields x body) (Acting ActKind.Hop o st (set_at_target p y body)) (shaped_set_here st s o flags owner fields x body i f h) (i, shaped_set_target p y body h)
shaped_set_row st s o flags owner fields x body (Some (IsValue v)) i f h = shaped_set_here st s o flags owner fields x body i f h
shaped_set_row st s o flags owner fields x body (Some (IsMethod params b)) i f h = shaped_set_here st s o flags owner fields x body i f h

shaped_on_object : (st : Store ℕ) (t : ℕ) (s : Self ℕ) (o : ℕ) (op : Operation ℕ) (flags : Flags) (owner : Option ℕ) (fields : Fields ℕ) → IsShapedStore st → AreShapedFields fields → ShapedOperation op → ShapedOutcome (on_object st t s o op flags owner fields)
shaped_on_object st t s o (Get p x) flags owner fields i f h = shaped_get_row st o (field x fields) i (shaped_field x fields f)
shaped_on_object st t s o (CallMethod p x vs) flags owner fields i f h = shaped_invoke st t s o flags owner fields vs (field x fields) i f h (shaped_field x fields f)
shaped_on_object st t s o (Set p x body) flags owner fields i f h = shaped_set_row st s o flags owner fields x body (field x fields) i f h
shaped_on_object st t s o (Copy p first copied rest) flags owner fields i f h =
    outcome_if (is_refused same_loc s o flags) (Acting ActKind.Copy o st is_protected) (Acting ActKind.Copy o st (Form (Cloning (Some (unwrap_or first flags)) (append_fields copied fields) rest) End))
    (i, (tt, tt)) (i, (shaped_append copied fields h f, tt))
shaped_on_object st t s o (RedirectTo p target) flags owner fields i f h =
    outcome_if (is_refused same_loc s o flags) (Acting ActKind.Redirect o st is_protected) (Acting ActKind.Redirect o (with_cell st o (ObjectCell flags owner (aliased target fields))) (Const Okay))
    (i, (tt, tt)) (with_cell_shaped st o (ObjectCell flags owner (aliased target fields)) i (shaped_aliased target fields), tt)
shaped_on_object st t s o _ flags owner fields i f h = tt

shaped_at_object : (st : Store ℕ) (t : ℕ) (s : Self ℕ) (o : ℕ) (op : Operation ℕ) (c : Option (Cell ℕ)) → IsShapedStore st → IsShapedSome c → ShapedOperation op → ShapedOutcome (at_object st t s o op c)
shaped_at_object st t s o op (Some (ObjectCell flags owner fields)) i c h = outcome_if (is_clear same_loc s o flags owner) (on_object st t s o op flags owner fields) Waiting (shaped_on_object st t s o op flags owner fields i c h) tt
shaped_at_object st t s o op _ i c h = tt

-- ---- the other operations

owned_shaped : (owner : Option ℕ) (st : Store ℕ) (o : ℕ) (c : Option (Cell ℕ)) → IsShapedStore st → IsShapedSome c → IsShapedStore (owned_by owner st o c)
owned_shaped owner st o (Some (ObjectCell flags old fields)) i h = with_cell_shaped st o (ObjectCell flags owner fields) i h
owned_shaped owner st o _ i h = i

array_shaped : (c : Option (Cell ℕ)) → IsShapedSome c → AllShaped (items_of c)
array_shaped (Some (ArrayCell vs)) h = h
array_shaped _ h = tt

item_shaped : (vs : List (Value ℕ)) (k : ℕ) → AllShaped vs → IsShapedItem (slice_get vs k)
item_shaped [] k h = tt
item_shaped (v ∷ vs) zero h = h.0
item_shaped (v ∷ vs) (suc k) h = item_shaped vs k h.1

shaped_item_at : (vs : List (Value ℕ)) (i : ℤ) → AllShaped vs → IsShapedItem (item_at vs i)
shaped_item_at vs (pos i) h = item_shaped vs i h
shaped_item_at vs (negsuc i) h = tt

shaped_replace : (vs : List (Value ℕ)) (k : ℕ) (v : Value ℕ) → AllShaped vs → IsShapedValue v → AllShaped (slice_set vs k v)
shaped_replace [] k v h i = tt
shaped_replace (w ∷ vs) zero v h i = (i, h.1)
shaped_replace (w ∷ vs) (suc k) v h i = (h.0, shaped_replace vs k v h.1 i)

shaped_set_item : (st : Store ℕ) (a : ℕ) (i : ℤ) (v : Value ℕ) (c : Option (Cell ℕ)) → IsShapedStore st → IsShapedSome c → IsShapedValue v → ShapedOutcome (set_item st a i v c)
shaped_set_item st a (pos i) v (Some (ArrayCell vs)) s h k =
    outcome_if (nat_lt i (length vs)) (Acting ActKind.ArraySet a (with_cell st a (ArrayCell (slice_set vs i v))) (Const Okay)) (Acting ActKind.ArraySet a st array_index)
    (with_cell_shaped st a (ArrayCell (slice_set vs i v)) s (shaped_replace vs i v h k), tt) (s, (tt, tt))
shaped_set_item st a (negsuc i) v (Some (ArrayCell vs)) s h k = (s, (tt, tt))
shaped_set_item st a i v _ s h k = tt

shaped_set_variable : (st : Store ℕ) (l : ℕ) (v : Value ℕ) (c : Option (Cell ℕ)) → IsShapedStore st → IsShapedValue v → ShapedOutcome (set_variable st l v c)
shaped_set_variable st l v (Some (VariableCell old)) s h = (with_cell_shaped st l (VariableCell v) s h, tt)
shaped_set_variable st l v _ s h = tt

shaped_write : (st : Store ℕ) (w : ℕ) (t : Bytes) (c : Option (Cell ℕ)) → IsShapedStore st → ShapedOutcome (write st w t c)
shaped_write st w t (Some (WriterCell old)) s = (with_cell_shaped st w (WriterCell (old ++ t)) s tt, tt)
shaped_write st w t _ s = tt

shaped_line : (kind : ActKind) (st : Store ℕ) (q : ℕ) (f : List ℕ → List ℕ) (focus : Term ℕ) (c : Option (Cell ℕ)) → IsShapedStore st → IsShaped focus → ShapedOutcome (with_line kind st q f focus c)
shaped_line kind st q f focus (Some (ConditionCell line)) s h = (with_cell_shaped st q (ConditionCell (f line)) s tt, h)
shaped_line kind st q f focus _ s h = tt

shaped_value : (c : Option (Cell ℕ)) → IsShapedSome c → IsShapedValue (value_of c)
shaped_value (Some (VariableCell v)) h = h
shaped_value (Some (EngineCell v)) h = h
shaped_value _ h = tt

shaped_after : (after : After ℕ) (n : ℕ) (c : Cell ℕ) → IsShapedAfter after → IsShaped (after_new after n c)
shaped_after Itself n (ObjectCell flags owner fields) h = tt
shaped_after Itself n (ArrayCell vs) h = tt
shaped_after Itself n (VariableCell v) h = tt
shaped_after Itself n (WriterCell bytes) h = tt
shaped_after Itself n (ConditionCell line) h = tt
shaped_after Itself n (EngineCell v) h = tt
shaped_after (Entered scope) n c h = shaped_enter (Loc Variable n ∷ []) scope (tt, tt) (one_scope scope h)
shaped_after (Offered name namer) n c h = (tt, (tt, (tt, (tt, tt))))

item_if : (b : Bool) (v w : Option (Value ℕ)) → IsShapedItem v → IsShapedItem w → IsShapedItem (if b then v else w)
item_if true v w h k = h
item_if false v w h k = k

shaped_exported : (x : Bytes) (es : List (Bytes × Value ℕ)) → AreShapedNames es → IsShapedItem (exported x es)
shaped_exported x [] h = tt
shaped_exported x (e ∷ es) h = item_if (bytes_eq x e.0) (Some e.1) (exported x es) h.0 (shaped_exported x es h.1)

names_if : (b : Bool) (v w : List (Bytes × Value ℕ)) → AreShapedNames v → AreShapedNames w → AreShapedNames (if b then v else w)
names_if true v w h k = h
names_if false v w h k = k

shaped_export : (x : Bytes) (v : Value ℕ) (es : List (Bytes × Value ℕ)) → IsShapedValue v → AreShapedNames es → AreShapedNames (export x v es)
shaped_export x v [] i h = (i, tt)
shaped_export x v (e ∷ es) i h = names_if (bytes_eq x e.0) ((x, v) ∷ es) (e ∷ export x v es) (i, h.1) (h.0, shaped_export x v es i h.1)

shaped_imported : (st : Store ℕ) (e : Bool) (v : Option (Value ℕ)) → IsShapedStore st → IsShapedItem v → ShapedOutcome (imported st e v)
shaped_imported st e None s h = tt
shaped_imported st false (Some v) s h = (s, h)
shaped_imported st true (Some (Loc Engine n)) s h = (s, tt)
shaped_imported st true (Some _) s h = (s, (tt, tt))

shaped_joined : (st : Store ℕ) (u : ℕ) (ts : List ThreadState) (n : ℕ) → IsShapedStore st → AreShapedThreads ts → ShapedOutcome (joined st u (slice_get ts n))
shaped_joined st u [] n s h = tt
shaped_joined st u (t ∷ ts) zero s h = by_execution t.execution h.0
  where
    by_execution : (l : Execution) → IsShapedExecution l → ShapedOutcome (elim l [ Running t ↦ Waiting | Returned v ↦ Acting ActKind.Join u st (Const v) | Failed e ↦ Acting ActKind.Join u st (raise e) ])
    by_execution (Running t) h = tt
    by_execution (Returned v) h = (s, h)
    by_execution (Failed e) h = (s, (tt, tt))
shaped_joined st u (t ∷ ts) (suc n) s h = shaped_joined st u ts n s h.1

shaped_item_row : (st : Store ℕ) (a : ℕ) (f : Value ℕ → Term ℕ) (v : Option (Value ℕ)) → IsShapedStore st → IsShapedItem v → ((w : Value ℕ) → IsShapedValue w → IsShaped (f w)) → ShapedOutcome (item st a f v)
shaped_item_row st a f None s h g = (s, (tt, tt))
shaped_item_row st a f (Some v) s h g = (s, g v h)

-- what any operation comes to
pub shaped_perform : (k : Config) (t : ℕ) (s : Self ℕ) (op : Operation ℕ) → IsShapedConfig k → ShapedOperation op → ShapedOutcome (perform k t s op)
shaped_perform k t s (New cell after) c h = ((shaped_new k.store.cells cell c.0.0 h.0, c.0.1), shaped_after after (length k.store.cells) cell h.1)
shaped_perform k t s (Get o x) c h = shaped_at_object k.store t s o (Get o x) (cell_at k.store o) c.0 (shaped_get k.store.cells o c.0.0) h
shaped_perform k t s (CallMethod o x vs) c h = shaped_at_object k.store t s o (CallMethod o x vs) (cell_at k.store o) c.0 (shaped_get k.store.cells o c.0.0) h
shaped_perform k t s (Set o x body) c h = shaped_at_object k.store t s o (Set o x body) (cell_at k.store o) c.0 (shaped_get k.store.cells o c.0.0) h
shaped_perform k t s (Copy o first copied rest) c h = shaped_at_object k.store t s o (Copy o first copied rest) (cell_at k.store o) c.0 (shaped_get k.store.cells o c.0.0) h
shaped_perform k t s (RedirectTo o target) c h = shaped_at_object k.store t s o (RedirectTo o target) (cell_at k.store o) c.0 (shaped_get k.store.cells o c.0.0) h
shaped_perform k t s (Leave o left) c h = (owned_shaped None k.store o (cell_at k.store o) c.0 (shaped_get k.store.cells o c.0.0), h)
shaped_perform k t s (GetItem a i) c h = shaped_item_row k.store a (λ v. Const v) (item_at (items_of (cell_at k.store a)) i) c.0 (shaped_item_at (items_of (cell_at k.store a)) i (array_shaped (cell_at k.store a) (shaped_get k.store.cells a c.0.0))) (λ w g. g)
shaped_perform k t s (GetSize a) c h = (c.0, tt)
shaped_perform k t s (EachSize a scope) c h = (c.0, (tt, (h, tt)))
shaped_perform k t s (EachItem a i n scope) c h =
    shaped_item_row k.store a (λ v. Form (EachIn a i n) (Part (enter (v ∷ []) scope) (Part scope End))) (slice_get (items_of (cell_at k.store a)) i) c.0 (item_shaped (items_of (cell_at k.store a)) i (array_shaped (cell_at k.store a) (shaped_get k.store.cells a c.0.0)))
    (λ w g. (tt, (shaped_enter (w ∷ []) scope (g, tt) (one_scope scope h), (h, tt))))
shaped_perform k t s (SetItem a i v) c h = shaped_set_item k.store a i v (cell_at k.store a) c.0 (shaped_get k.store.cells a c.0.0) h
shaped_perform k t s (ReadVariable l) c h = (c.0, shaped_value (cell_at k.store l) (shaped_get k.store.cells l c.0.0))
shaped_perform k t s (SetVariable l v) c h = shaped_set_variable k.store l v (cell_at k.store l) c.0 h
shaped_perform k t s (Write w text) c h = shaped_write k.store w text (cell_at k.store w) c.0
shaped_perform k t s (ForkOff f) c h =
    outcome_if (nat_le THREAD_LIMIT (length k.threads)) (Acting ActKind.Fork THREAD_LIMIT k.store fork_limit) (Forking (length k.threads) (Form Call (Part (Const f) End)) (Const (Thread (length k.threads))))
    (c.0, (tt, tt)) ((tt, (h, tt)), tt)
shaped_perform k t s (JoinWith u) c h = shaped_joined k.store u k.threads u c.0 c.1
shaped_perform k t s (LineUp o q guard) c h = shaped_line ActKind.Line k.store q (λ line. line ++ t ∷ []) (Form (Lined o q) (Part guard End)) (cell_at k.store q) c.0 (tt, (h, tt))
shaped_perform k t s (GiveUp o q guard) c h = (owned_shaped None k.store o (cell_at k.store o) c.0 (shaped_get k.store.cells o c.0.0), (tt, (h, tt)))
shaped_perform k t s (Again o q guard) c h =
    outcome_if (in_line t (line_of (cell_at k.store q)) || not (is_free (cell_at k.store o))) Waiting (Acting ActKind.Again o (owned_by (Some t) k.store o (cell_at k.store o)) (testing o q guard))
    tt (owned_shaped (Some t) k.store o (cell_at k.store o) c.0 (shaped_get k.store.cells o c.0.0), (tt, (h, (h, tt))))
shaped_perform k t s (Signal q) c h = shaped_line ActKind.Signal k.store q (drop 1) (Const Okay) (cell_at k.store q) c.0 tt
shaped_perform k t s (Broadcast q) c h = shaped_line ActKind.Broadcast k.store q (λ line. []) (Const Okay) (cell_at k.store q) c.0 tt
shaped_perform k t s (Export x v) c h = ((c.0.0, shaped_export x v k.store.names h c.0.1), tt)
shaped_perform k t s (Import x e) c h = shaped_imported k.store e (exported x k.store.names) c.0 (shaped_exported x k.store.names c.0.1)
shaped_perform k t s (RunEngine e f) c h = (c.0, (tt, (shaped_body f (value_of (cell_at k.store e) ∷ []) h (shaped_value (cell_at k.store e) (shaped_get k.store.cells e c.0.0), tt), tt)))
