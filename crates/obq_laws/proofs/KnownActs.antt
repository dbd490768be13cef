-- An act leaves a known store and a known term.
use Rattle.std.specs.Prelude.{Bool, List, None, Option, Some, [], bytes_eq, drop, false, if◌then◌else◌, length, nat_le, nat_lt, negsuc, not, pos, refl, slice_get, slice_set, suc, true, unwrap_or, zero, ℕ, ℤ, ◌++◌, ◌==◌, ◌∷◌, ◌≡◌, ◌||◌, ◌≤◌}
use Rattle.std.proofs.Common.{subst, sym, arith}
use Rattle.obq_base.specs.declared.limits.TheConstants.{THREAD_LIMIT}
use Rattle.obq_base.specs.declared.acts.ActKind.{ActKind}
use Rattle.obq_base.specs.declared.trees.Flags.{Flags}
use Rattle.obq_model.specs.Terms.{Bytes, Object, Variable, Engine, Value, Okay, Thread, Loc, FieldBody, IsValue, IsMethod, IsAlias, Fields, Bare, Field, Call, Within, EachIn, Cloning, Lined, Term, Const, Form, End, Part}
use Rattle.obq_model.specs.Put.{put_all, enter}
use Rattle.obq_model.specs.Exceptions.{raise, arity, array_index, is_protected, fork_limit}
use Rattle.obq_model.specs.Store.{Cell, ObjectCell, ArrayCell, VariableCell, WriterCell, ConditionCell, EngineCell, Store, same_loc, field, with_field, append_fields, aliased, exported, export}
use Rattle.obq_model.specs.Step.{Self, After, Itself, Entered, Offered, Operation, New, Get, CallMethod, Leave, Set, Copy, RedirectTo, GetItem, GetSize, EachSize, EachItem, SetItem, ReadVariable, SetVariable, Write, ForkOff, JoinWith, LineUp, GiveUp, Again, Signal, Broadcast, Export, Import, RunEngine, values_before, testing}
use Rattle.obq_model.specs.Config.{Execution, Running, Returned, Failed, ThreadState, Config, cell_at, with_cell}
use Rattle.obq_model.specs.Cells.{is_clear, is_refused, mode_for, owner_for, set_at_target, is_alias, items_of, item_at, value_of, is_free, after_new}
use Rattle.obq_model.specs.Effect.{Outcome, Waiting, Acting, Forking, get, invoke, set_here, set_field, on_object, at_object, item, set_item, set_variable, write, with_line, owned_by, line_of, in_line, imported, joined, perform}
use Rattle.obq_model.proofs.Slices.{set_length}
use Rattle.obq_laws.proofs.Raises.{raises_type, raises_arity, raises_array_index, raises_field_missing, raises_fork_limit, raises_not_method, raises_not_value, raises_protected}
use Rattle.obq_laws.specs.Known.{IsText, Places, Threads, IsKnown, AreKnown, IsKnownValue, AreKnownFields, IsKnownBody, AllKnown, IsKnownCell, location_kind, IsKnownAfter, IsKnownOperation, AreKnownCells, AreKnownNames, IsKnownStore, IsKnownExecution, AreKnownThreads}
use Rattle.obq_laws.proofs.KnownStep.{known_put_all, known_enter, known_body}
use Rattle.obq_laws.proofs.Numbers.{length_int}

abbrev pub KnownOutcome : Places ℕ → Threads → Outcome → Type 0
KnownOutcome L T Waiting = Unit {0}
KnownOutcome L T (Acting kind loc st focus) = IsKnownStore L T st × IsKnown L T focus
KnownOutcome L T (Forking loc new focus) = IsKnown L T new × IsKnown L T focus

-- what an operation makes is known
abbrev pub MakesKnown : Places ℕ → Threads → Config → Operation ℕ → Type 0
MakesKnown L T k (New cell after) = L (location_kind cell) (length k.store.cells)
MakesKnown L T k (ForkOff f) = nat_le THREAD_LIMIT (length k.threads) ≡ false → T.numbers (length k.threads)
MakesKnown L T k op = Unit {0}

abbrev IsKnownSome : Places ℕ → Threads → Option (Cell ℕ) → Type 0
IsKnownSome L T None = Unit {0}
IsKnownSome L T (Some c) = IsKnownCell L T c

abbrev IsKnownBodyIf : Places ℕ → Threads → Option (FieldBody ℕ) → Type 0
IsKnownBodyIf L T None = Unit {0}
IsKnownBodyIf L T (Some b) = IsKnownBody L T b

abbrev IsKnownIf : Places ℕ → Threads → Option (Value ℕ) → Type 0
IsKnownIf L T None = Unit {0}
IsKnownIf L T (Some v) = IsKnownValue L T v

outcome_if : (L : Places ℕ) (T : Threads) (b : Bool) (x y : Outcome) → KnownOutcome L T x → KnownOutcome L T y → KnownOutcome L T (if b then x else y)
outcome_if L T true x y h i = h
outcome_if L T false x y h i = i

outcome_unless : (L : Places ℕ) (T : Threads) (b : Bool) (x y : Outcome) → KnownOutcome L T x → (b ≡ false → KnownOutcome L T y) → KnownOutcome L T (if b then x else y)
outcome_unless L T true x y h i = h
outcome_unless L T false x y h i = i refl

-- ---- lists

known_get : (L : Places ℕ) (T : Threads) (cs : List (Cell ℕ)) (k : ℕ) → AreKnownCells L T cs → IsKnownSome L T (slice_get cs k)
known_get L T [] k h = tt
known_get L T (c ∷ cs) zero h = h.0
known_get L T (c ∷ cs) (suc k) h = known_get L T cs k h.1

known_set : (L : Places ℕ) (T : Threads) (cs : List (Cell ℕ)) (k : ℕ) (c : Cell ℕ) → AreKnownCells L T cs → IsKnownCell L T c → AreKnownCells L T (slice_set cs k c)
known_set L T [] k c h i = tt
known_set L T (d ∷ cs) zero c h i = (i, h.1)
known_set L T (d ∷ cs) (suc k) c h i = (h.0, known_set L T cs k c h.1 i)

known_new : (L : Places ℕ) (T : Threads) (cs : List (Cell ℕ)) (c : Cell ℕ) → AreKnownCells L T cs → IsKnownCell L T c → AreKnownCells L T (cs ++ c ∷ [])
known_new L T [] c h i = (i, tt)
known_new L T (d ∷ cs) c h i = (h.0, known_new L T cs c h.1 i)

with_cell_known : (L : Places ℕ) (T : Threads) (st : Store ℕ) (k : ℕ) (c : Cell ℕ) → IsKnownStore L T st → IsKnownCell L T c → IsKnownStore L T (with_cell st k c)
with_cell_known L T st k c s h = (known_set L T st.cells k c s.0 h, s.1)

known_values : (L : Places ℕ) (T : Threads) (vs : List (Value ℕ)) → AllKnown L T vs → AreKnown L T (values_before vs End)
known_values L T [] h = tt
known_values L T (v ∷ vs) h = (h.0, known_values L T vs h.1)

-- ---- fields

body_if : (L : Places ℕ) (T : Threads) (b : Bool) (x y : Option (FieldBody ℕ)) → IsKnownBodyIf L T x → IsKnownBodyIf L T y → IsKnownBodyIf L T (if b then x else y)
body_if L T true x y h i = h
body_if L T false x y h i = i

fields_if : (L : Places ℕ) (T : Threads) (b : Bool) (x y : Fields ℕ) → AreKnownFields L T x → AreKnownFields L T y → AreKnownFields L T (if b then x else y)
fields_if L T true x y h i = h
fields_if L T false x y h i = i

known_field : (L : Places ℕ) (T : Threads) (x : Bytes) (fs : Fields ℕ) → AreKnownFields L T fs → IsKnownBodyIf L T (field x fs)
known_field L T x Bare h = tt
known_field L T x (Field y body fs) h = body_if L T (bytes_eq x y) (Some body) (field x fs) h.0 (known_field L T x fs h.1)

known_with_field : (L : Places ℕ) (T : Threads) (x : Bytes) (body : FieldBody ℕ) (fs : Fields ℕ) → IsKnownBody L T body → AreKnownFields L T fs → AreKnownFields L T (with_field x body fs)
known_with_field L T x body Bare i h = tt
known_with_field L T x body (Field y old fs) i h = fields_if L T (bytes_eq x y) (Field y body fs) (Field y old (with_field x body fs)) (i, h.1) (h.0, known_with_field L T x body fs i h.1)

known_append : (L : Places ℕ) (T : Threads) (fs gs : Fields ℕ) → AreKnownFields L T fs → AreKnownFields L T gs → AreKnownFields L T (append_fields fs gs)
known_append L T Bare gs h k = k
known_append L T (Field x body fs) gs h k = (h.0, known_append L T fs gs h.1 k)

known_aliased : (L : Places ℕ) (T : Threads) (p : ℕ) (fs : Fields ℕ) → L Object p → AreKnownFields L T (aliased p fs)
known_aliased L T p Bare h = tt
known_aliased L T p (Field x body fs) h = (h, known_aliased L T p fs h)

-- ---- operations on an object

known_get_row : (L : Places ℕ) (T : Threads) (st : Store ℕ) (o : ℕ) (b : Option (FieldBody ℕ)) → IsKnownStore L T st → IsKnownBodyIf L T b → KnownOutcome L T (get st o b)
known_get_row L T st o None s h = (s, raises_field_missing L T)
known_get_row L T st o (Some (IsValue v)) s h = (s, h)
known_get_row L T st o (Some (IsMethod params body)) s h = (s, raises_not_value L T)
known_get_row L T st o (Some (IsAlias p y)) s h = (s, (tt, (h, tt)))

known_invoke : (L : Places ℕ) (T : Threads) (st : Store ℕ) (t : ℕ) (s : Self ℕ) (o : ℕ) (flags : Flags) (owner : Option ℕ) (fields : Fields ℕ) (vs : List (Value ℕ)) (b : Option (FieldBody ℕ)) → IsKnownStore L T st → L Object o → AreKnownFields L T fields → AllKnown L T vs → IsKnownBodyIf L T b
    → KnownOutcome L T (invoke st t s o flags owner fields vs b)
known_invoke L T st t s o flags owner fields vs None i l f k h = (i, raises_field_missing L T)
known_invoke L T st t s o flags owner fields vs (Some (IsValue v)) i l f k h = (i, raises_not_method L T)
known_invoke L T st t s o flags owner fields vs (Some (IsAlias p y)) i l f k h = (i, (tt, (h, known_values L T vs k)))
known_invoke L T st t s o flags owner fields vs (Some (IsMethod params body)) i l f k h =
    outcome_if L T (length params == suc (length vs))
    (Acting ActKind.Call o (with_cell st o (ObjectCell flags (owner_for same_loc s o flags t owner) fields)) (Form (Within o (mode_for same_loc s o flags)) (Part (put_all (Loc Object o ∷ vs) params body) End)))
    (Acting ActKind.Call o st arity)
    (with_cell_known L T st o (ObjectCell flags (owner_for same_loc s o flags t owner) fields) i f, (l, (known_put_all L T (Loc Object o ∷ vs) params body (l, k) h.1, tt)))
    (i, raises_arity L T)

known_set_target : (L : Places ℕ) (T : Threads) (p : ℕ) (y : Bytes) (body : FieldBody ℕ) → L Object p → IsKnownBody L T body → IsKnown L T (set_at_target p y body)
known_set_target L T p y (IsValue v) l h = (tt, (l, (h, tt)))
known_set_target L T p y (IsMethod params body) l h = (tt, (l, (h.1, tt)))
known_set_target L T p y (IsAlias q z) l h = (tt, (l, (h, tt)))

known_set_here : (L : Places ℕ) (T : Threads) (st : Store ℕ) (s : Self ℕ) (o : ℕ) (flags : Flags) (owner : Option ℕ) (fields : Fields ℕ) (x : Bytes) (body : FieldBody ℕ) → IsKnownStore L T st → AreKnownFields L T fields → IsKnownBody L T body → KnownOutcome L T (set_here st s o flags owner fields x body)
known_set_here L T st s o flags owner fields x body i f h =
    outcome_if L T (is_refused same_loc s o flags) (Acting ActKind.Set o st is_protected) (Acting ActKind.Set o (with_cell st o (ObjectCell flags owner (with_field x body fields))) (Const Okay))
    (i, raises_protected L T) (with_cell_known L T st o (ObjectCell flags owner (with_field x body fields)) i (known_with_field L T x body fields h f), tt)

known_set_row : (L : Places ℕ) (T : Threads) (st : Store ℕ) (s : Self ℕ) (o : ℕ) (flags : Flags) (owner : Option ℕ) (fields : Fields ℕ) (x : Bytes) (body : FieldBody ℕ) (b : Option (FieldBody ℕ)) → IsKnownStore L T st → AreKnownFields L T fields → IsKnownBody L T body → IsKnownBodyIf L T b
    → KnownOutcome L T (set_field st s o flags owner fields x body b)
known_set_row L T st s o flags owner fields x body None i f h k = (i, raises_field_missing L T)
known_set_row L T st s o flags owner fields x body (Some (IsAlias p y)) i f h k =
    outcome_if L T (is_alias body) (set_here st s o flags owner fields x body) (Acting ActKind.Hop o st (set_at_target p y body)) (known_set_here L T st s o flags owner fields x body i f h) (i, known_set_target L T p y body k h)
known_set_row L T st s o flags owner fields x body (Some (IsValue v)) i f h k = known_set_here L T st s o flags owner fields x body i f h
known_set_row L T st s o flags owner fields x body (Some (IsMethod params b)) i f h k = known_set_here L T st s o flags owner fields x body i f h

known_on_object : (L : Places ℕ) (T : Threads) (st : Store ℕ) (t : ℕ) (s : Self ℕ) (o : ℕ) (op : Operation ℕ) (flags : Flags) (owner : Option ℕ) (fields : Fields ℕ) → IsKnownStore L T st → L Object o → AreKnownFields L T fields → IsKnownOperation L T op → KnownOutcome L T (on_object st t s o op flags owner fields)
known_on_object L T st t s o (Get p x) flags owner fields i l f h = known_get_row L T st o (field x fields) i (known_field L T x fields f)
known_on_object L T st t s o (CallMethod p x vs) flags owner fields i l f h = known_invoke L T st t s o flags owner fields vs (field x fields) i l f h.1 (known_field L T x fields f)
known_on_object L T st t s o (Set p x body) flags owner fields i l f h = known_set_row L T st s o flags owner fields x body (field x fields) i f h.1 (known_field L T x fields f)
known_on_object L T st t s o (Copy p first copied rest) flags owner fields i l f h =
    outcome_if L T (is_refused same_loc s o flags) (Acting ActKind.Copy o st is_protected) (Acting ActKind.Copy o st (Form (Cloning (Some (unwrap_or first flags)) (append_fields copied fields) rest) End))
    (i, raises_protected L T) (i, ((known_append L T copied fields h.1 f, h.2), tt))
known_on_object L T st t s o (RedirectTo p target) flags owner fields i l f h =
    outcome_if L T (is_refused same_loc s o flags) (Acting ActKind.Redirect o st is_protected) (Acting ActKind.Redirect o (with_cell st o (ObjectCell flags owner (aliased target fields))) (Const Okay))
    (i, raises_protected L T) (with_cell_known L T st o (ObjectCell flags owner (aliased target fields)) i (known_aliased L T target fields h.1), tt)
known_on_object L T st t s o _ flags owner fields i l f h = tt

known_at_object : (L : Places ℕ) (T : Threads) (st : Store ℕ) (t : ℕ) (s : Self ℕ) (o : ℕ) (op : Operation ℕ) (c : Option (Cell ℕ)) → IsKnownStore L T st → L Object o → IsKnownSome L T c → IsKnownOperation L T op → KnownOutcome L T (at_object st t s o op c)
known_at_object L T st t s o op (Some (ObjectCell flags owner fields)) i l c h = outcome_if L T (is_clear same_loc s o flags owner) (on_object st t s o op flags owner fields) Waiting (known_on_object L T st t s o op flags owner fields i l c h) tt
known_at_object L T st t s o op _ i l c h = tt

-- ---- the other operations

owned_known : (L : Places ℕ) (T : Threads) (owner : Option ℕ) (st : Store ℕ) (o : ℕ) (c : Option (Cell ℕ)) → IsKnownStore L T st → IsKnownSome L T c → IsKnownStore L T (owned_by owner st o c)
owned_known L T owner st o (Some (ObjectCell flags old fields)) i h = with_cell_known L T st o (ObjectCell flags owner fields) i h
owned_known L T owner st o _ i h = i

size_at : (L : Places ℕ) (T : Threads) (c : Option (Cell ℕ)) → IsKnownSome L T c → length (items_of c) ≤ 65536
size_at L T (Some (ArrayCell vs)) h = h.0
size_at L T (Some (ObjectCell flags owner fields)) h = omega arith
size_at L T (Some (VariableCell v)) h = omega arith
size_at L T (Some (WriterCell bytes)) h = omega arith
size_at L T (Some (ConditionCell line)) h = omega arith
size_at L T (Some (EngineCell v)) h = omega arith
size_at L T None h = omega arith

array_known : (L : Places ℕ) (T : Threads) (c : Option (Cell ℕ)) → IsKnownSome L T c → AllKnown L T (items_of c)
array_known L T (Some (ArrayCell vs)) h = h.1
array_known L T _ h = tt

item_known : (L : Places ℕ) (T : Threads) (vs : List (Value ℕ)) (k : ℕ) → AllKnown L T vs → IsKnownIf L T (slice_get vs k)
item_known L T [] k h = tt
item_known L T (v ∷ vs) zero h = h.0
item_known L T (v ∷ vs) (suc k) h = item_known L T vs k h.1

item_at_known : (L : Places ℕ) (T : Threads) (vs : List (Value ℕ)) (i : ℤ) → AllKnown L T vs → IsKnownIf L T (item_at vs i)
item_at_known L T vs (pos i) h = item_known L T vs i h
item_at_known L T vs (negsuc i) h = tt

known_item : (L : Places ℕ) (T : Threads) (st : Store ℕ) (a : ℕ) (f : Value ℕ → Term ℕ) (v : Option (Value ℕ)) → IsKnownStore L T st → ((w : Value ℕ) → IsKnownValue L T w → IsKnown L T (f w)) → IsKnownIf L T v → KnownOutcome L T (item st a f v)
known_item L T st a f None s h i = (s, raises_array_index L T)
known_item L T st a f (Some v) s h i = (s, h v i)

known_replace : (L : Places ℕ) (T : Threads) (vs : List (Value ℕ)) (k : ℕ) (v : Value ℕ) → AllKnown L T vs → IsKnownValue L T v → AllKnown L T (slice_set vs k v)
known_replace L T [] k v h i = tt
known_replace L T (w ∷ vs) zero v h i = (i, h.1)
known_replace L T (w ∷ vs) (suc k) v h i = (h.0, known_replace L T vs k v h.1 i)

known_set_item : (L : Places ℕ) (T : Threads) (st : Store ℕ) (a : ℕ) (i : ℤ) (v : Value ℕ) (c : Option (Cell ℕ)) → IsKnownStore L T st → IsKnownSome L T c → IsKnownValue L T v → KnownOutcome L T (set_item st a i v c)
known_set_item L T st a (pos i) v (Some (ArrayCell vs)) s h k =
    outcome_if L T (nat_lt i (length vs)) (Acting ActKind.ArraySet a (with_cell st a (ArrayCell (slice_set vs i v))) (Const Okay)) (Acting ActKind.ArraySet a st array_index)
    (with_cell_known L T st a (ArrayCell (slice_set vs i v)) s (subst (λ n. n ≤ 65536) (sym (set_length vs i v)) h.0, known_replace L T vs i v h.1 k), tt) (s, raises_array_index L T)
known_set_item L T st a (negsuc i) v (Some (ArrayCell vs)) s h k = (s, raises_array_index L T)
known_set_item L T st a i v _ s h k = tt

known_set_variable : (L : Places ℕ) (T : Threads) (st : Store ℕ) (l : ℕ) (v : Value ℕ) (c : Option (Cell ℕ)) → IsKnownStore L T st → IsKnownValue L T v → KnownOutcome L T (set_variable st l v c)
known_set_variable L T st l v (Some (VariableCell old)) s h = (with_cell_known L T st l (VariableCell v) s h, tt)
known_set_variable L T st l v _ s h = tt

known_write : (L : Places ℕ) (T : Threads) (st : Store ℕ) (w : ℕ) (x : Bytes) (c : Option (Cell ℕ)) → IsKnownStore L T st → KnownOutcome L T (write st w x c)
known_write L T st w x (Some (WriterCell old)) s = (with_cell_known L T st w (WriterCell (old ++ x)) s tt, tt)
known_write L T st w x _ s = tt

known_line : (L : Places ℕ) (T : Threads) (kind : ActKind) (st : Store ℕ) (q : ℕ) (f : List ℕ → List ℕ) (focus : Term ℕ) (c : Option (Cell ℕ)) → IsKnownStore L T st → IsKnown L T focus → KnownOutcome L T (with_line kind st q f focus c)
known_line L T kind st q f focus (Some (ConditionCell line)) s h = (with_cell_known L T st q (ConditionCell (f line)) s tt, h)
known_line L T kind st q f focus _ s h = tt

known_value : (L : Places ℕ) (T : Threads) (c : Option (Cell ℕ)) → IsKnownSome L T c → IsKnownValue L T (value_of c)
known_value L T (Some (VariableCell v)) h = h
known_value L T (Some (EngineCell v)) h = h
known_value L T _ h = tt

known_after : (L : Places ℕ) (T : Threads) (after : After ℕ) (n : ℕ) (c : Cell ℕ) → IsKnownAfter L T c after → L (location_kind c) n → IsKnown L T (after_new after n c)
known_after L T Itself n (ObjectCell flags owner fields) h l = l
known_after L T Itself n (ArrayCell vs) h l = l
known_after L T Itself n (VariableCell v) h l = l
known_after L T Itself n (WriterCell bytes) h l = l
known_after L T Itself n (ConditionCell line) h l = l
known_after L T Itself n (EngineCell v) h l = l
known_after L T (Entered scope) n c h l = known_enter L T (Loc Variable n ∷ []) scope (subst (λ kind. L kind n) h.0 l, tt) h.1
known_after L T (Offered name namer) n c h l = (tt, (h.1, (h.2, (subst (λ kind. L kind n) h.0 l, tt))))

known_exported : (L : Places ℕ) (T : Threads) (x : Bytes) (ns : List (Bytes × Value ℕ)) → AreKnownNames L T ns → IsKnownIf L T (exported x ns)
known_exported L T x [] h = tt
known_exported L T x (e ∷ es) h = by (bytes_eq x e.0) (known_exported L T x es h.1)
  where
    by : (b : Bool) → IsKnownIf L T (exported x es) → IsKnownIf L T (if b then Some e.1 else exported x es)
    by true i = h.0.1
    by false i = i

known_export : (L : Places ℕ) (T : Threads) (x : Bytes) (v : Value ℕ) (ns : List (Bytes × Value ℕ)) → IsText T x × IsKnownValue L T v → AreKnownNames L T ns → AreKnownNames L T (export x v ns)
known_export L T x v [] i h = (i, tt)
known_export L T x v (e ∷ es) i h = by (bytes_eq x e.0) (known_export L T x v es i h.1)
  where
    by : (b : Bool) → AreKnownNames L T (export x v es) → AreKnownNames L T (if b then (x, v) ∷ es else e ∷ export x v es)
    by true j = (i, h.1)
    by false j = (h.0, j)

known_imported : (L : Places ℕ) (T : Threads) (st : Store ℕ) (engine : Bool) (v : Option (Value ℕ)) → IsKnownStore L T st → IsKnownIf L T v → KnownOutcome L T (imported st engine v)
known_imported L T st engine None s h = tt
known_imported L T st false (Some v) s h = (s, h)
known_imported L T st true (Some (Loc Engine e)) s h = (s, h)
known_imported L T st true (Some (Loc Object e)) s h = (s, raises_type L T)
known_imported L T st true (Some _) s h = (s, raises_type L T)

abbrev pub IsKnownState : Places ℕ → Threads → Option ThreadState → Type 0
IsKnownState L T None = Unit {0}
IsKnownState L T (Some s) = IsKnownExecution L T s.execution

pub thread_known : (L : Places ℕ) (T : Threads) (ts : List ThreadState) (t : ℕ) → AreKnownThreads L T ts → IsKnownState L T (slice_get ts t)
thread_known L T [] t h = tt
thread_known L T (s ∷ ss) zero h = h.0
thread_known L T (s ∷ ss) (suc t) h = thread_known L T ss t h.1

known_joined : (L : Places ℕ) (T : Threads) (st : Store ℕ) (u : ℕ) (o : Option ThreadState) → IsKnownStore L T st → IsKnownState L T o → KnownOutcome L T (joined st u o)
known_joined L T st u None s h = tt
known_joined L T st u (Some state) s h = by state.execution h
  where
    by : (l : Execution) → IsKnownExecution L T l → KnownOutcome L T (elim l [ Running t ↦ Waiting | Returned v ↦ Acting ActKind.Join u st (Const v) | Failed e ↦ Acting ActKind.Join u st (raise e) ])
    by (Running t) i = tt
    by (Returned v) i = (s, i)
    by (Failed e) i = (s, (i, tt))

pub known_perform : (L : Places ℕ) (T : Threads) (k : Config) (t : ℕ) (s : Self ℕ) (op : Operation ℕ) → IsKnownStore L T k.store → AreKnownThreads L T k.threads → IsKnownOperation L T op → MakesKnown L T k op → KnownOutcome L T (perform k t s op)
known_perform L T k t s (New cell after) i ts h m = ((known_new L T k.store.cells cell i.0 h.0, i.1), known_after L T after (length k.store.cells) cell h.1 m)
known_perform L T k t s (Get o x) i ts h m = known_at_object L T k.store t s o (Get o x) (cell_at k.store o) i h (known_get L T k.store.cells o i.0) h
known_perform L T k t s (CallMethod o x vs) i ts h m = known_at_object L T k.store t s o (CallMethod o x vs) (cell_at k.store o) i h.0 (known_get L T k.store.cells o i.0) h
known_perform L T k t s (Set o x body) i ts h m = known_at_object L T k.store t s o (Set o x body) (cell_at k.store o) i h.0 (known_get L T k.store.cells o i.0) h
known_perform L T k t s (Copy o first copied rest) i ts h m = known_at_object L T k.store t s o (Copy o first copied rest) (cell_at k.store o) i h.0 (known_get L T k.store.cells o i.0) h
known_perform L T k t s (RedirectTo o target) i ts h m = known_at_object L T k.store t s o (RedirectTo o target) (cell_at k.store o) i h.0 (known_get L T k.store.cells o i.0) h
known_perform L T k t s (Leave o out) i ts h m = (owned_known L T None k.store o (cell_at k.store o) i (known_get L T k.store.cells o i.0), h.1)
known_perform L T k t s (GetItem a j) i ts h m = known_item L T k.store a (λ v. Const v) (item_at (items_of (cell_at k.store a)) j) i (λ w q. q) (item_at_known L T (items_of (cell_at k.store a)) j (array_known L T (cell_at k.store a) (known_get L T k.store.cells a i.0)))
known_perform L T k t s (GetSize a) i ts h m = (i, λ b. length_int (length (items_of (cell_at k.store a))) (size_at L T (cell_at k.store a) (known_get L T k.store.cells a i.0)))
known_perform L T k t s (EachSize a scope) i ts h m = (i, (h.0, (h.1, tt)))
known_perform L T k t s (EachItem a j n scope) i ts h m =
    known_item L T k.store a (λ v. Form (EachIn a j n) (Part (enter (v ∷ []) scope) (Part scope End))) (slice_get (items_of (cell_at k.store a)) j) i
    (λ w q. (h.0, (known_enter L T (w ∷ []) scope (q, tt) h.1, (h.1, tt)))) (item_known L T (items_of (cell_at k.store a)) j (array_known L T (cell_at k.store a) (known_get L T k.store.cells a i.0)))
known_perform L T k t s (SetItem a j v) i ts h m = known_set_item L T k.store a j v (cell_at k.store a) i (known_get L T k.store.cells a i.0) h.1
known_perform L T k t s (ReadVariable l) i ts h m = (i, known_value L T (cell_at k.store l) (known_get L T k.store.cells l i.0))
known_perform L T k t s (SetVariable l v) i ts h m = known_set_variable L T k.store l v (cell_at k.store l) i h.1
known_perform L T k t s (Write w x) i ts h m = known_write L T k.store w x (cell_at k.store w) i
known_perform L T k t s (ForkOff f) i ts h m =
    outcome_unless L T (nat_le THREAD_LIMIT (length k.threads)) (Acting ActKind.Fork THREAD_LIMIT k.store fork_limit) (Forking (length k.threads) (Form Call (Part (Const f) End)) (Const (Thread (length k.threads)))) (i, raises_fork_limit L T) (λ n. ((tt, (h, tt)), m n))
known_perform L T k t s (JoinWith u) i ts h m = known_joined L T k.store u (slice_get k.threads u) i (thread_known L T k.threads u ts)
known_perform L T k t s (LineUp o c guard) i ts h m = known_line L T ActKind.Line k.store c (λ line. line ++ t ∷ []) (Form (Lined o c) (Part guard End)) (cell_at k.store c) i ((h.0, h.1), (h.2, tt))
known_perform L T k t s (GiveUp o c guard) i ts h m = (owned_known L T None k.store o (cell_at k.store o) i (known_get L T k.store.cells o i.0), ((h.0, h.1), (h.2, tt)))
known_perform L T k t s (Again o c guard) i ts h m =
    outcome_if L T (in_line t (line_of (cell_at k.store c)) || not (is_free (cell_at k.store o))) Waiting (Acting ActKind.Again o (owned_by (Some t) k.store o (cell_at k.store o)) (testing o c guard))
    tt (owned_known L T (Some t) k.store o (cell_at k.store o) i (known_get L T k.store.cells o i.0), ((h.0, h.1), (h.2, (h.2, tt))))
known_perform L T k t s (Signal c) i ts h m = known_line L T ActKind.Signal k.store c (drop 1) (Const Okay) (cell_at k.store c) i tt
known_perform L T k t s (Broadcast c) i ts h m = known_line L T ActKind.Broadcast k.store c (λ line. []) (Const Okay) (cell_at k.store c) i tt
known_perform L T k t s (Export x v) i ts h m = ((i.0, known_export L T x v k.store.names h i.1), tt)
known_perform L T k t s (Import x engine) i ts h m = known_imported L T k.store engine (exported x k.store.names) i (known_exported L T x k.store.names i.1)
known_perform L T k t s (RunEngine e f) i ts h m = (i, (tt, (known_body L T f (value_of (cell_at k.store e) ∷ []) h.1 (known_value L T (cell_at k.store e) (known_get L T k.store.cells e i.0), tt), tt)))
