-- What an act does to the owners of objects.
use Rattle.std.specs.Prelude.{Bool, List, None, Option, Some, T, [], drop, false, if◌then◌else◌, is_none, length, nat_le, nat_lt, negsuc, not, pos, refl, slice_get, slice_set, suc, true, unwrap_or, zero, ℕ, ℤ, ◌&&◌, ◌++◌, ◌==◌, ◌||◌, ◌∷◌, ◌≡◌, ◌⊎◌}
use Rattle.std.proofs.Common.{inl, inr, subst, ap, sym, ◌∙◌}
use Rattle.obq_base.specs.declared.limits.TheConstants.{THREAD_LIMIT}
use Rattle.obq_base.specs.declared.acts.ActKind.{ActKind}
use Rattle.obq_base.specs.declared.trees.Flags.{Flags}
use Rattle.obq_model.specs.Terms.{Bytes, Object, Engine, Plain, Held, Inner, Value, Okay, Thread, Loc, FieldBody, IsValue, IsMethod, IsAlias, Fields, Call, Within, EachIn, Cloning, Lined, Term, Const, Form, Parts, End, Part}
use Rattle.obq_model.specs.Put.{put_all, enter}
use Rattle.obq_model.specs.Exceptions.{raise, arity, array_index, is_protected, fork_limit}
use Rattle.obq_model.specs.Store.{Cell, ObjectCell, ArrayCell, VariableCell, WriterCell, ConditionCell, EngineCell, Store, same_loc, field, with_field, append_fields, aliased, exported}
use Rattle.obq_model.specs.Step.{Self, Operation, New, Get, CallMethod, Leave, Set, Copy, RedirectTo, GetItem, GetSize, EachSize, EachItem, SetItem, ReadVariable, SetVariable, Write, ForkOff, JoinWith, LineUp, GiveUp, Again, Signal, Broadcast, Export, Import, RunEngine, testing}
use Rattle.obq_model.specs.Forms.{IsSource, AreSource, AreSourceFields, AllSource, Mark, Inside, marks_of, marks_of_all}
use Rattle.obq_model.specs.Config.{Execution, Running, Returned, Failed, ThreadState, Config, cell_at, with_cell}
use Rattle.obq_model.specs.Cells.{is_self, is_clear, is_refused, mode_for, owner_for, set_at_target, is_alias, items_of, item_at, is_free}
use Rattle.obq_model.specs.Effect.{Outcome, Waiting, Acting, Forking, get, invoke, set_here, set_field, on_object, at_object, item, set_item, set_variable, write, with_line, owned_by, line_of, in_line, imported, joined, perform}
use Rattle.obq_model.specs.OneCell.{owner_of}
use Rattle.obq_laws.specs.Keeping.{owner_at, holds, was_given_up, IsSourceConfig}
use Rattle.obq_laws.proofs.Source.{source_put_all, all_source-marks_of}
use Rattle.obq_laws.proofs.Methods.{IsSourceOperation, marks_values}
use Rattle.obq_laws.proofs.Acts.{IsObjectAt, IsSourceSome, source_get, IsSourceBody, source_field}

-- all owners stay; all but that of o stay
abbrev pub Kept : Store ℕ → Store ℕ → Type 0
Kept st st' = (p : ℕ) → owner_at st' p ≡ owner_at st p

abbrev pub KeptBut : ℕ → Store ℕ → Store ℕ → Type 0
KeptBut o st st' = (p : ℕ) → (p ≡ o → ⊥) → owner_at st' p ≡ owner_at st p

cells_kept : (cs : List (Cell ℕ)) (k : ℕ) (c : Cell ℕ) → owner_of (Some c) ≡ owner_of (slice_get cs k) → (p : ℕ) → owner_of (slice_get (slice_set cs k c) p) ≡ owner_of (slice_get cs p)
cells_kept [] k c e p = refl
cells_kept (d ∷ cs) zero c e zero = e
cells_kept (d ∷ cs) zero c e (suc p) = refl
cells_kept (d ∷ cs) (suc k) c e zero = refl
cells_kept (d ∷ cs) (suc k) c e (suc p) = cells_kept cs k c e p

cells_kept_but : (cs : List (Cell ℕ)) (k : ℕ) (c : Cell ℕ) (p : ℕ) → (p ≡ k → ⊥) → owner_of (slice_get (slice_set cs k c) p) ≡ owner_of (slice_get cs p)
cells_kept_but [] k c p n = refl
cells_kept_but (d ∷ cs) zero c zero n = absurd (n refl)
cells_kept_but (d ∷ cs) zero c (suc p) n = refl
cells_kept_but (d ∷ cs) (suc k) c zero n = refl
cells_kept_but (d ∷ cs) (suc k) c (suc p) n = cells_kept_but cs k c p (λ e. n (ap suc e))

pub cells_changed : (cs : List (Cell ℕ)) (k : ℕ) (c d : Cell ℕ) → slice_get cs k ≡ Some d → slice_get (slice_set cs k c) k ≡ Some c
cells_changed [] k c d e = absurd (no_cell e)
  where
    no_cell : None ≡ Some d → ⊥
    no_cell q = subst (λ o. T (is_none o)) q tt
cells_changed (b ∷ cs) zero c d e = refl
cells_changed (b ∷ cs) (suc k) c d e = cells_changed cs k c d e

-- no method in Held mode is among these
abbrev pub NoneHeld : List (ℕ × Mark) → Type 0
NoneHeld ws = (p : ℕ) → (holds p ws ≡ false) × (was_given_up p ws ≡ false)

none_held_source : (parts : Parts ℕ) → AreSource parts → NoneHeld (marks_of_all parts)
none_held_source parts h p = subst (λ l. (holds p l ≡ false) × (was_given_up p l ≡ false)) (sym (all_source-marks_of parts h)) (refl, refl)

-- what an outcome does to the owners, for thread t
abbrev pub Owners : ℕ → Operation ℕ → Store ℕ → Outcome → Type 0
Owners t op st Waiting = Unit {0}
Owners t op st (Forking loc new focus) = Unit {0}
Owners t (CallMethod o x vs) st (Acting kind loc st' focus) =
    (Kept st st' × NoneHeld (marks_of focus)) ⊎ ((owner_at st o ≡ None) × (owner_at st' o ≡ Some t) × KeptBut o st st' × (marks_of focus ≡ (o, Inside Held) ∷ []))
Owners t (Leave o left) st (Acting kind loc st' focus) = (owner_at st' o ≡ None) × KeptBut o st st'
Owners t (GiveUp o c guard) st (Acting kind loc st' focus) = (owner_at st' o ≡ None) × KeptBut o st st'
Owners t (Again o c guard) st (Acting kind loc st' focus) = (owner_at st o ≡ None) × (owner_at st' o ≡ Some t) × KeptBut o st st'
Owners t op st (Acting kind loc st' focus) = Kept st st'

owners_if : (t : ℕ) (op : Operation ℕ) (st : Store ℕ) (b : Bool) (x y : Outcome) → Owners t op st x → Owners t op st y → Owners t op st (if b then x else y)
owners_if t op st true x y h k = h
owners_if t op st false x y h k = k

-- a method entered: in Held mode the mutex was free and is t's now
entered : (st : Store ℕ) (t : ℕ) (s : Self ℕ) (o : ℕ) (x : Bytes) (protected serialized self : Bool) (owner : Option ℕ) (fields : Fields ℕ) (vs : List (Value ℕ)) (body : Term ℕ) → IsSource body → cell_at st o ≡ Some (ObjectCell (record { protected = protected; serialized = serialized }) owner fields) → is_self same_loc s o ≡ self → (not serialized || (self || is_none owner)) ≡ true → Owners t (CallMethod o x vs) st (Acting ActKind.Call o (with_cell st o (ObjectCell (record { protected = protected; serialized = serialized }) (if serialized && not self then Some t else owner) fields)) (Form (Within o (if serialized then (if self then Inner else Held) else Plain)) (Part body End)))
entered st t s o x p false self owner fields vs body h e q free = inl (cells_kept st.cells o (ObjectCell (record { protected = p; serialized = false }) owner fields) (ap owner_of (sym e)), λ q. none_held_source (Part body End) (h, tt) q)
entered st t s o x p true true owner fields vs body h e q free = inl (cells_kept st.cells o (ObjectCell (record { protected = p; serialized = true }) owner fields) (ap owner_of (sym e)), λ q. none_held_source (Part body End) (h, tt) q)
entered st t s o x p true false None fields vs body h e q free =
    inr (ap owner_of e, ap owner_of (cells_changed st.cells o (ObjectCell (record { protected = p; serialized = true }) (Some t) fields) _ e), cells_kept_but st.cells o (ObjectCell (record { protected = p; serialized = true }) (Some t) fields), ap (λ l. (o, Inside Held) ∷ l) (all_source-marks_of (Part body End) (h, tt)))
entered st t s o x p true false (Some u) fields vs body h e q free = absurd (subst T (sym free) tt)

-- an act that leaves all owners
same_cell : (st : Store ℕ) (o : ℕ) (c d : Cell ℕ) → cell_at st o ≡ Some d → owner_of (Some c) ≡ owner_of (Some d) → Kept st (with_cell st o c)
same_cell st o c d e q = cells_kept st.cells o c (q ∙ ap owner_of (sym e))

stays : (st : Store ℕ) → Kept st st
stays st p = refl

owners_get : (t : ℕ) (st : Store ℕ) (o : ℕ) (x : Bytes) (b : Option (FieldBody ℕ)) → Owners t (Get o x) st (get st o b)
owners_get t st o x None = stays st
owners_get t st o x (Some (IsValue v)) = stays st
owners_get t st o x (Some (IsMethod params body)) = stays st
owners_get t st o x (Some (IsAlias p y)) = stays st

owners_invoke : (st : Store ℕ) (t : ℕ) (s : Self ℕ) (o : ℕ) (x : Bytes) (flags : Flags) (owner : Option ℕ) (fields : Fields ℕ) (vs : List (Value ℕ)) (b : Option (FieldBody ℕ)) → AllSource vs → IsSourceBody b → cell_at st o ≡ Some (ObjectCell flags owner fields) → is_clear same_loc s o flags owner ≡ true → Owners t (CallMethod o x vs) st (invoke st t s o flags owner fields vs b)
owners_invoke st t s o x flags owner fields vs None k h e free = inl (stays st, λ q. (refl, refl))
owners_invoke st t s o x flags owner fields vs (Some (IsValue v)) k h e free = inl (stays st, λ q. (refl, refl))
owners_invoke st t s o x flags owner fields vs (Some (IsAlias p y)) k h e free = inl (stays st, λ q. subst (λ l. (holds q l ≡ false) × (was_given_up q l ≡ false)) (sym (marks_values (Loc Object p ∷ vs) End)) (refl, refl))
owners_invoke st t s o x flags owner fields vs (Some (IsMethod params body)) k h e free =
    owners_if t (CallMethod o x vs) st (length params == suc (length vs))
    (Acting ActKind.Call o (with_cell st o (ObjectCell flags (owner_for same_loc s o flags t owner) fields)) (Form (Within o (mode_for same_loc s o flags)) (Part (put_all (Loc Object o ∷ vs) params body) End)))
    (Acting ActKind.Call o st arity)
    (entered st t s o x flags.protected flags.serialized (is_self same_loc s o) owner fields vs (put_all (Loc Object o ∷ vs) params body) (source_put_all (Loc Object o ∷ vs) params body (tt, k) h) e refl free)
    (inl (stays st, λ q. (refl, refl)))

owners_set_here : (st : Store ℕ) (t : ℕ) (s : Self ℕ) (o : ℕ) (flags : Flags) (owner : Option ℕ) (fields : Fields ℕ) (x : Bytes) (body : FieldBody ℕ) → cell_at st o ≡ Some (ObjectCell flags owner fields) → Owners t (Set o x body) st (set_here st s o flags owner fields x body)
owners_set_here st t s o flags owner fields x body e =
    owners_if t (Set o x body) st (is_refused same_loc s o flags) (Acting ActKind.Set o st is_protected) (Acting ActKind.Set o (with_cell st o (ObjectCell flags owner (with_field x body fields))) (Const Okay))
    (stays st) (same_cell st o (ObjectCell flags owner (with_field x body fields)) (ObjectCell flags owner fields) e refl)

owners_set : (st : Store ℕ) (t : ℕ) (s : Self ℕ) (o : ℕ) (flags : Flags) (owner : Option ℕ) (fields : Fields ℕ) (x : Bytes) (body : FieldBody ℕ) (b : Option (FieldBody ℕ)) → cell_at st o ≡ Some (ObjectCell flags owner fields) → Owners t (Set o x body) st (set_field st s o flags owner fields x body b)
owners_set st t s o flags owner fields x body None e = stays st
owners_set st t s o flags owner fields x body (Some (IsAlias p y)) e = owners_if t (Set o x body) st (is_alias body) (set_here st s o flags owner fields x body) (Acting ActKind.Hop o st (set_at_target p y body)) (owners_set_here st t s o flags owner fields x body e) (stays st)
owners_set st t s o flags owner fields x body (Some (IsValue v)) e = owners_set_here st t s o flags owner fields x body e
owners_set st t s o flags owner fields x body (Some (IsMethod params b)) e = owners_set_here st t s o flags owner fields x body e

owners_on_object : (st : Store ℕ) (t : ℕ) (s : Self ℕ) (o : ℕ) (op : Operation ℕ) (flags : Flags) (owner : Option ℕ) (fields : Fields ℕ) → IsObjectAt o op → IsSourceOperation s op → AreSourceFields fields → cell_at st o ≡ Some (ObjectCell flags owner fields) → is_clear same_loc s o flags owner ≡ true → Owners t op st (on_object st t s o op flags owner fields)
owners_on_object st t s o (Get p x) flags owner fields i h f e free = owners_get t st o x (field x fields)
owners_on_object st t s o (CallMethod p x vs) flags owner fields i h f e free = subst (λ q. Owners t (CallMethod q x vs) st (invoke st t s o flags owner fields vs (field x fields))) i (owners_invoke st t s o x flags owner fields vs (field x fields) h (source_field x fields f) e free)
owners_on_object st t s o (Set p x body) flags owner fields i h f e free = owners_set st t s o flags owner fields x body (field x fields) e
owners_on_object st t s o (Copy p first copied rest) flags owner fields i h f e free = owners_if t (Copy p first copied rest) st (is_refused same_loc s o flags) (Acting ActKind.Copy o st is_protected) (Acting ActKind.Copy o st (Form (Cloning (Some (unwrap_or first flags)) (append_fields copied fields) rest) End)) (stays st) (stays st)
owners_on_object st t s o (RedirectTo p target) flags owner fields i h f e free = owners_if t (RedirectTo p target) st (is_refused same_loc s o flags) (Acting ActKind.Redirect o st is_protected) (Acting ActKind.Redirect o (with_cell st o (ObjectCell flags owner (aliased target fields))) (Const Okay)) (stays st) (same_cell st o (ObjectCell flags owner (aliased target fields)) (ObjectCell flags owner fields) e refl)
owners_on_object st t s o _ flags owner fields i h f e free = tt

if_clear : (t : ℕ) (op : Operation ℕ) (st : Store ℕ) (b : Bool) (x : Outcome) → (b ≡ true → Owners t op st x) → Owners t op st (if b then x else Waiting)
if_clear t op st true x h = h refl
if_clear t op st false x h = tt

owners_at_object : (st : Store ℕ) (t : ℕ) (s : Self ℕ) (o : ℕ) (op : Operation ℕ) (c : Option (Cell ℕ)) → cell_at st o ≡ c → IsObjectAt o op → IsSourceOperation s op → IsSourceSome c → Owners t op st (at_object st t s o op c)
owners_at_object st t s o op (Some (ObjectCell flags owner fields)) e i h f = if_clear t op st (is_clear same_loc s o flags owner) (on_object st t s o op flags owner fields) (λ free. owners_on_object st t s o op flags owner fields i h f e free)
owners_at_object st t s o op _ e i h f = tt

-- ---- the other rows

owned_but : (owner : Option ℕ) (st : Store ℕ) (o : ℕ) (c : Option (Cell ℕ)) → KeptBut o st (owned_by owner st o c)
owned_but owner st o (Some (ObjectCell flags old fields)) = cells_kept_but st.cells o (ObjectCell flags owner fields)
owned_but owner st o None = λ p n. refl
owned_but owner st o (Some (ArrayCell vs)) = λ p n. refl
owned_but owner st o (Some (VariableCell v)) = λ p n. refl
owned_but owner st o (Some (WriterCell t)) = λ p n. refl
owned_but owner st o (Some (ConditionCell l)) = λ p n. refl
owned_but owner st o (Some (EngineCell v)) = λ p n. refl

-- the owner after the mutex is freed, and after it is taken
owned_none : (st : Store ℕ) (o : ℕ) (c : Option (Cell ℕ)) → cell_at st o ≡ c → owner_at (owned_by None st o c) o ≡ None
owned_none st o (Some (ObjectCell flags old fields)) e = ap owner_of (cells_changed st.cells o (ObjectCell flags None fields) (ObjectCell flags old fields) e)
owned_none st o None e = ap owner_of e
owned_none st o (Some (ArrayCell vs)) e = ap owner_of e
owned_none st o (Some (VariableCell v)) e = ap owner_of e
owned_none st o (Some (WriterCell t)) e = ap owner_of e
owned_none st o (Some (ConditionCell l)) e = ap owner_of e
owned_none st o (Some (EngineCell v)) e = ap owner_of e

taken_again : (t : ℕ) (st : Store ℕ) (o : ℕ) (c : Option (Cell ℕ)) → cell_at st o ≡ c → is_free c ≡ true → (owner_at st o ≡ None) × (owner_at (owned_by (Some t) st o c) o ≡ Some t) × KeptBut o st (owned_by (Some t) st o c)
taken_again t st o (Some (ObjectCell flags None fields)) e f = (ap owner_of e, ap owner_of (cells_changed st.cells o (ObjectCell flags (Some t) fields) (ObjectCell flags None fields) e), cells_kept_but st.cells o (ObjectCell flags (Some t) fields))
taken_again t st o (Some (ObjectCell flags (Some u) fields)) e f = absurd (subst T (sym f) tt)
taken_again t st o None e f = absurd (subst T (sym f) tt)
taken_again t st o (Some (ArrayCell vs)) e f = absurd (subst T (sym f) tt)
taken_again t st o (Some (VariableCell v)) e f = absurd (subst T (sym f) tt)
taken_again t st o (Some (WriterCell w)) e f = absurd (subst T (sym f) tt)
taken_again t st o (Some (ConditionCell l)) e f = absurd (subst T (sym f) tt)
taken_again t st o (Some (EngineCell v)) e f = absurd (subst T (sym f) tt)

if_free : (t : ℕ) (op : Operation ℕ) (st : Store ℕ) (b c : Bool) (x : Outcome) → (c ≡ true → Owners t op st x) → Owners t op st (if b || not c then Waiting else x)
if_free t op st true c x h = tt
if_free t op st false true x h = h refl
if_free t op st false false x h = tt

cells_new : (cs : List (Cell ℕ)) (c : Cell ℕ) → owner_of (Some c) ≡ None → (p : ℕ) → owner_of (slice_get (cs ++ c ∷ []) p) ≡ owner_of (slice_get cs p)
cells_new [] c e zero = e
cells_new [] c e (suc p) = refl
cells_new (d ∷ cs) c e zero = refl
cells_new (d ∷ cs) c e (suc p) = cells_new cs c e p

owners_item : (t : ℕ) (st : Store ℕ) (a : ℕ) (i : ℤ) (v : Option (Value ℕ)) → Owners t (GetItem a i) st (item st a (λ v. Const v) v)
owners_item t st a i None = stays st
owners_item t st a i (Some v) = stays st

owners_each : (t : ℕ) (st : Store ℕ) (a : ℕ) (i n : ℕ) (scope : Term ℕ) (v : Option (Value ℕ)) → Owners t (EachItem a i n scope) st (item st a (λ v. Form (EachIn a i n) (Part (enter (v ∷ []) scope) (Part scope End))) v)
owners_each t st a i n scope None = stays st
owners_each t st a i n scope (Some v) = stays st

owners_set_item : (t : ℕ) (st : Store ℕ) (a : ℕ) (i : ℤ) (v : Value ℕ) (c : Option (Cell ℕ)) → cell_at st a ≡ c → Owners t (SetItem a i v) st (set_item st a i v c)
owners_set_item t st a (pos i) v (Some (ArrayCell vs)) e = owners_if t (SetItem a (pos i) v) st (nat_lt i (length vs)) (Acting ActKind.ArraySet a (with_cell st a (ArrayCell (slice_set vs i v))) (Const Okay)) (Acting ActKind.ArraySet a st array_index) (same_cell st a (ArrayCell (slice_set vs i v)) (ArrayCell vs) e refl) (stays st)
owners_set_item t st a (negsuc i) v (Some (ArrayCell vs)) e = stays st
owners_set_item t st a i v _ e = tt

owners_set_variable : (t : ℕ) (st : Store ℕ) (l : ℕ) (v : Value ℕ) (c : Option (Cell ℕ)) → cell_at st l ≡ c → Owners t (SetVariable l v) st (set_variable st l v c)
owners_set_variable t st l v (Some (VariableCell old)) e = same_cell st l (VariableCell v) (VariableCell old) e refl
owners_set_variable t st l v _ e = tt

owners_write : (t : ℕ) (st : Store ℕ) (w : ℕ) (x : Bytes) (c : Option (Cell ℕ)) → cell_at st w ≡ c → Owners t (Write w x) st (write st w x c)
owners_write t st w x (Some (WriterCell old)) e = same_cell st w (WriterCell (old ++ x)) (WriterCell old) e refl
owners_write t st w x _ e = tt

-- a row on a condition, for an operation that keeps owners
line_kept : (t : ℕ) (op : Operation ℕ) (kind : ActKind) (st : Store ℕ) (q : ℕ) (f : List ℕ → List ℕ) (focus : Term ℕ) (c : Option (Cell ℕ)) → cell_at st q ≡ c → ((st' : Store ℕ) → Kept st st' → Owners t op st (Acting kind q st' focus)) → Owners t op st (with_line kind st q f focus c)
line_kept t op kind st q f focus (Some (ConditionCell line)) e g = g (with_cell st q (ConditionCell (f line))) (same_cell st q (ConditionCell (f line)) (ConditionCell line) e refl)
line_kept t op kind st q f focus _ e g = tt

owners_imported : (t : ℕ) (st : Store ℕ) (x : Bytes) (b : Bool) (v : Option (Value ℕ)) → Owners t (Import x b) st (imported st b v)
owners_imported t st x b None = tt
owners_imported t st x false (Some v) = stays st
owners_imported t st x true (Some (Loc Engine n)) = stays st
owners_imported t st x true (Some _) = stays st

owners_joined : (t : ℕ) (st : Store ℕ) (u : ℕ) (o : Option ThreadState) → Owners t (JoinWith u) st (joined st u o)
owners_joined t st u None = tt
owners_joined t st u (Some state) = by_execution state.execution
  where
    by_execution : (l : Execution) → Owners t (JoinWith u) st (elim l [ Running t ↦ Waiting | Returned v ↦ Acting ActKind.Join u st (Const v) | Failed e ↦ Acting ActKind.Join u st (raise e) ])
    by_execution (Running v) = tt
    by_execution (Returned v) = stays st
    by_execution (Failed e) = stays st

pub owners_perform : (k : Config) (t : ℕ) (s : Self ℕ) (op : Operation ℕ) → IsSourceConfig k → IsSourceOperation s op → Owners t op k.store (perform k t s op)
owners_perform k t s (New cell after) c h = cells_new k.store.cells cell h.2
owners_perform k t s (Get o x) c h = owners_at_object k.store t s o (Get o x) (cell_at k.store o) refl tt h (source_get k.store.cells o c.0.0)
owners_perform k t s (CallMethod o x vs) c h = owners_at_object k.store t s o (CallMethod o x vs) (cell_at k.store o) refl refl h (source_get k.store.cells o c.0.0)
owners_perform k t s (Set o x body) c h = owners_at_object k.store t s o (Set o x body) (cell_at k.store o) refl tt h (source_get k.store.cells o c.0.0)
owners_perform k t s (Copy o first copied rest) c h = owners_at_object k.store t s o (Copy o first copied rest) (cell_at k.store o) refl tt h (source_get k.store.cells o c.0.0)
owners_perform k t s (RedirectTo o target) c h = owners_at_object k.store t s o (RedirectTo o target) (cell_at k.store o) refl tt h (source_get k.store.cells o c.0.0)
owners_perform k t s (Leave o left) c h = (owned_none k.store o (cell_at k.store o) refl, owned_but None k.store o (cell_at k.store o))
owners_perform k t s (GetItem a i) c h = owners_item t k.store a i (item_at (items_of (cell_at k.store a)) i)
owners_perform k t s (GetSize a) c h = stays k.store
owners_perform k t s (EachSize a scope) c h = stays k.store
owners_perform k t s (EachItem a i n scope) c h = owners_each t k.store a i n scope (slice_get (items_of (cell_at k.store a)) i)
owners_perform k t s (SetItem a i v) c h = owners_set_item t k.store a i v (cell_at k.store a) refl
owners_perform k t s (ReadVariable l) c h = stays k.store
owners_perform k t s (SetVariable l v) c h = owners_set_variable t k.store l v (cell_at k.store l) refl
owners_perform k t s (Write w text) c h = owners_write t k.store w text (cell_at k.store w) refl
owners_perform k t s (ForkOff f) c h = owners_if t (ForkOff f) k.store (nat_le THREAD_LIMIT (length k.threads)) (Acting ActKind.Fork THREAD_LIMIT k.store fork_limit) (Forking (length k.threads) (Form Call (Part (Const f) End)) (Const (Thread (length k.threads)))) (stays k.store) tt
owners_perform k t s (JoinWith v) c h = owners_joined t k.store v (slice_get k.threads v)
owners_perform k t s (LineUp o q guard) c h = line_kept t (LineUp o q guard) ActKind.Line k.store q (λ line. line ++ t ∷ []) (Form (Lined o q) (Part guard End)) (cell_at k.store q) refl (λ st' e. e)
owners_perform k t s (GiveUp o q guard) c h = (owned_none k.store o (cell_at k.store o) refl, owned_but None k.store o (cell_at k.store o))
owners_perform k t s (Again o q guard) c h = if_free t (Again o q guard) k.store (in_line t (line_of (cell_at k.store q))) (is_free (cell_at k.store o)) (Acting ActKind.Again o (owned_by (Some t) k.store o (cell_at k.store o)) (testing o q guard)) (λ f. taken_again t k.store o (cell_at k.store o) refl f)
owners_perform k t s (Signal q) c h = line_kept t (Signal q) ActKind.Signal k.store q (drop 1) (Const Okay) (cell_at k.store q) refl (λ st' e. e)
owners_perform k t s (Broadcast q) c h = line_kept t (Broadcast q) ActKind.Broadcast k.store q (λ line. []) (Const Okay) (cell_at k.store q) refl (λ st' e. e)
owners_perform k t s (Export x v) c h = stays k.store
owners_perform k t s (Import x b) c h = owners_imported t k.store x b (exported x k.store.names)
owners_perform k t s (RunEngine e f) c h = stays k.store
