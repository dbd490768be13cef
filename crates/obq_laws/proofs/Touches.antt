-- Which act an operation is, and where it is done.
use Rattle.std.specs.Prelude.{Bool, List, None, Option, Some, T, [], drop, false, if◌then◌else◌, is_none, length, nat_le, nat_lt, negsuc, not, pos, refl, slice_get, slice_set, suc, true, unwrap_or, ℕ, ℤ, ◌++◌, ◌==◌, ◌||◌, ◌∷◌, ◌≡◌, ◌⊎◌}
use Rattle.std.proofs.Common.{inl, inr, subst, sym}
use Rattle.obq_base.specs.declared.limits.TheConstants.{THREAD_LIMIT}
use Rattle.obq_base.specs.declared.acts.ActKind.{ActKind}
use Rattle.obq_base.specs.declared.trees.Flags.{Flags}
use Rattle.obq_model.specs.Terms.{Bytes, Object, Engine, Value, Okay, Thread, Loc, FieldBody, IsValue, IsMethod, IsAlias, Fields, Call, Within, EachIn, Cloning, Lined, Term, Const, Form, End, Part}
use Rattle.obq_model.specs.Put.{put_all, enter}
use Rattle.obq_model.specs.Exceptions.{raise, arity, array_index, is_protected, fork_limit}
use Rattle.obq_model.specs.Store.{Cell, ObjectCell, ArrayCell, VariableCell, WriterCell, ConditionCell, Store, same_loc, field, with_field, append_fields, aliased, exported}
use Rattle.obq_model.specs.Step.{Self, Operation, New, Get, CallMethod, Leave, Set, Copy, RedirectTo, GetItem, GetSize, EachSize, EachItem, SetItem, ReadVariable, SetVariable, Write, ForkOff, JoinWith, LineUp, GiveUp, Again, Signal, Broadcast, Export, Import, RunEngine, testing}
use Rattle.obq_model.specs.Config.{Execution, Running, Returned, Failed, ThreadState, Config, act, cell_at, with_cell}
use Rattle.obq_model.specs.Cells.{is_self, is_clear, is_refused, mode_for, owner_for, set_at_target, is_alias, items_of, item_at, is_free}
use Rattle.obq_model.specs.Effect.{Outcome, Waiting, Acting, Forking, get, invoke, set_here, set_field, on_object, at_object, item, set_item, set_variable, write, with_line, owned_by, line_of, in_line, imported, joined, perform}
use Rattle.obq_model.specs.Spans.{is_on}
use Rattle.obq_model.specs.OneCell.{owner_of}
use Rattle.obq_laws.specs.Keeping.{is_flagged}

-- the kinds of act that an object's mutex guards, and those with which it changes its owner
abbrev pub guarded : List ActKind
guarded = ActKind.Get ∷ ActKind.Call ∷ ActKind.Hop ∷ ActKind.Set ∷ ActKind.Copy ∷ ActKind.Redirect ∷ []

abbrev pub on_mutex : List ActKind
on_mutex = ActKind.Get ∷ ActKind.Call ∷ ActKind.Leave ∷ ActKind.Hop ∷ ActKind.Set ∷ ActKind.Copy ∷ ActKind.Redirect ∷ ActKind.GiveUp ∷ ActKind.Again ∷ []

abbrev pub is_kind : List ActKind → ActKind → Bool
is_kind kinds kind = is_on kinds 0 (act kind 0)

-- no operation on an object
abbrev pub IsElsewhere : ActKind → Type 0
IsElsewhere kind = (is_kind guarded kind ≡ false) × (is_kind on_mutex kind ≡ false)

-- neither a call nor a mutex taken again
abbrev pub TakesNone : ActKind → Type 0
TakesNone kind = (is_kind (ActKind.Call ∷ []) kind ≡ false) × (is_kind (ActKind.Again ∷ []) kind ≡ false)

-- the object isn't serialized, or its mutex is free, or it is the current self
abbrev pub IsClear : Self ℕ → ℕ → Option (Cell ℕ) → Type 0
IsClear s o c = (is_flagged true c ≡ false) ⊎ (owner_of c ≡ None) ⊎ (is_self same_loc s o ≡ true)

abbrev pub Touches : Self ℕ → ℕ → Option (Cell ℕ) → ActKind → ℕ → Type 0
Touches s o c kind loc = (loc ≡ o) × IsClear s o c

-- an outcome of an operation on the object o; in it no mutex is taken again
abbrev pub TouchesAt : (ActKind → Type 0) → Self ℕ → ℕ → Option (Cell ℕ) → Outcome → Type 0
TouchesAt P s o c Waiting = Unit {0}
TouchesAt P s o c (Forking loc new focus) = ⊥
TouchesAt P s o c (Acting kind loc st focus) = Touches s o c kind loc × P kind

abbrev pub NotAgain : ActKind → Type 0
NotAgain kind = is_kind (ActKind.Again ∷ []) kind ≡ false

-- which act an operation comes to
abbrev pub ActOf : Store ℕ → Self ℕ → Operation ℕ → Outcome → Type 0
ActOf st s (Get o x) x' = TouchesAt TakesNone s o (cell_at st o) x'
ActOf st s (CallMethod o x vs) x' = TouchesAt NotAgain s o (cell_at st o) x'
ActOf st s (Set o x body) x' = TouchesAt TakesNone s o (cell_at st o) x'
ActOf st s (Copy o first copied rest) x' = TouchesAt TakesNone s o (cell_at st o) x'
ActOf st s (RedirectTo o target) x' = TouchesAt TakesNone s o (cell_at st o) x'
ActOf st s (Leave o out) (Acting kind loc st' focus) = (kind ≡ ActKind.Leave) × (loc ≡ o)
ActOf st s (GiveUp o c guard) (Acting kind loc st' focus) = (kind ≡ ActKind.GiveUp) × (loc ≡ o)
ActOf st s (Again o c guard) (Acting kind loc st' focus) = (kind ≡ ActKind.Again) × (loc ≡ o)
ActOf st s op (Acting kind loc st' focus) = IsElsewhere kind × TakesNone kind
ActOf st s op x' = Unit {0}

-- ---- operations on an object

touches_if : (P : ActKind → Type 0) (s : Self ℕ) (o : ℕ) (c : Option (Cell ℕ)) (b : Bool) (x y : Outcome) → TouchesAt P s o c x → TouchesAt P s o c y → TouchesAt P s o c (if b then x else y)
touches_if P s o c true x y h k = h
touches_if P s o c false x y h k = k

touches_get : (st : Store ℕ) (s : Self ℕ) (o : ℕ) (c : Option (Cell ℕ)) (b : Option (FieldBody ℕ)) → IsClear s o c → TouchesAt TakesNone s o c (get st o b)
touches_get st s o c None h = ((refl, h), (refl, refl))
touches_get st s o c (Some (IsValue v)) h = ((refl, h), (refl, refl))
touches_get st s o c (Some (IsMethod params body)) h = ((refl, h), (refl, refl))
touches_get st s o c (Some (IsAlias p y)) h = ((refl, h), (refl, refl))

touches_invoke : (st : Store ℕ) (t : ℕ) (s : Self ℕ) (o : ℕ) (c : Option (Cell ℕ)) (flags : Flags) (owner : Option ℕ) (fields : Fields ℕ) (vs : List (Value ℕ)) (b : Option (FieldBody ℕ)) → IsClear s o c → TouchesAt NotAgain s o c (invoke st t s o flags owner fields vs b)
touches_invoke st t s o c flags owner fields vs None h = ((refl, h), refl)
touches_invoke st t s o c flags owner fields vs (Some (IsValue v)) h = ((refl, h), refl)
touches_invoke st t s o c flags owner fields vs (Some (IsAlias p y)) h = ((refl, h), refl)
touches_invoke st t s o c flags owner fields vs (Some (IsMethod params body)) h =
    touches_if NotAgain s o c (length params == suc (length vs))
    (Acting ActKind.Call o (with_cell st o (ObjectCell flags (owner_for same_loc s o flags t owner) fields)) (Form (Within o (mode_for same_loc s o flags)) (Part (put_all (Loc Object o ∷ vs) params body) End)))
    (Acting ActKind.Call o st arity) ((refl, h), refl) ((refl, h), refl)

touches_set_here : (st : Store ℕ) (s : Self ℕ) (o : ℕ) (c : Option (Cell ℕ)) (flags : Flags) (owner : Option ℕ) (fields : Fields ℕ) (x : Bytes) (body : FieldBody ℕ) → IsClear s o c → TouchesAt TakesNone s o c (set_here st s o flags owner fields x body)
touches_set_here st s o c flags owner fields x body h =
    touches_if TakesNone s o c (is_refused same_loc s o flags) (Acting ActKind.Set o st is_protected) (Acting ActKind.Set o (with_cell st o (ObjectCell flags owner (with_field x body fields))) (Const Okay))
    ((refl, h), (refl, refl)) ((refl, h), (refl, refl))

touches_set : (st : Store ℕ) (s : Self ℕ) (o : ℕ) (c : Option (Cell ℕ)) (flags : Flags) (owner : Option ℕ) (fields : Fields ℕ) (x : Bytes) (body : FieldBody ℕ) (b : Option (FieldBody ℕ)) → IsClear s o c → TouchesAt TakesNone s o c (set_field st s o flags owner fields x body b)
touches_set st s o c flags owner fields x body None h = ((refl, h), (refl, refl))
touches_set st s o c flags owner fields x body (Some (IsAlias p y)) h =
    touches_if TakesNone s o c (is_alias body) (set_here st s o flags owner fields x body) (Acting ActKind.Hop o st (set_at_target p y body)) (touches_set_here st s o c flags owner fields x body h) ((refl, h), (refl, refl))
touches_set st s o c flags owner fields x body (Some (IsValue v)) h = touches_set_here st s o c flags owner fields x body h
touches_set st s o c flags owner fields x body (Some (IsMethod params b)) h = touches_set_here st s o c flags owner fields x body h

-- an object that is clear, read as one of three
clear_of : (s : Self ℕ) (o : ℕ) (flags : Flags) (owner : Option ℕ) (fields : Fields ℕ) → is_clear same_loc s o flags owner ≡ true → IsClear s o (Some (ObjectCell flags owner fields))
clear_of s o flags owner fields e = by_case flags.serialized refl (is_self same_loc s o) refl owner e
  where
    by_case : (b : Bool) → flags.serialized ≡ b → (c : Bool) → is_self same_loc s o ≡ c → (w : Option ℕ) → (not b || (c || is_none w)) ≡ true → (flags.serialized ≡ false) ⊎ (w ≡ None) ⊎ (is_self same_loc s o ≡ true)
    by_case false q c r w i = inl q
    by_case true q true r w i = inr (inr r)
    by_case true q false r None i = inr (inl refl)
    by_case true q false r (Some u) i = absurd (subst T (sym i) tt)

when_clear : (P : ActKind → Type 0) (s : Self ℕ) (o : ℕ) (c : Option (Cell ℕ)) (b : Bool) (x : Outcome) → (b ≡ true → TouchesAt P s o c x) → TouchesAt P s o c (if b then x else Waiting)
when_clear P s o c true x h = h refl
when_clear P s o c false x h = tt

at_get : (st : Store ℕ) (t : ℕ) (s : Self ℕ) (o : ℕ) (x : Bytes) (c : Option (Cell ℕ)) → TouchesAt TakesNone s o c (at_object st t s o (Get o x) c)
at_get st t s o x (Some (ObjectCell flags owner fields)) =
    when_clear TakesNone s o (Some (ObjectCell flags owner fields)) (is_clear same_loc s o flags owner) (on_object st t s o (Get o x) flags owner fields) (λ e. touches_get st s o (Some (ObjectCell flags owner fields)) (field x fields) (clear_of s o flags owner fields e))
at_get st t s o x _ = tt

at_call : (st : Store ℕ) (t : ℕ) (s : Self ℕ) (o : ℕ) (x : Bytes) (vs : List (Value ℕ)) (c : Option (Cell ℕ)) → TouchesAt NotAgain s o c (at_object st t s o (CallMethod o x vs) c)
at_call st t s o x vs (Some (ObjectCell flags owner fields)) =
    when_clear NotAgain s o (Some (ObjectCell flags owner fields)) (is_clear same_loc s o flags owner) (on_object st t s o (CallMethod o x vs) flags owner fields) (λ e. touches_invoke st t s o (Some (ObjectCell flags owner fields)) flags owner fields vs (field x fields) (clear_of s o flags owner fields e))
at_call st t s o x vs _ = tt

at_set : (st : Store ℕ) (t : ℕ) (s : Self ℕ) (o : ℕ) (x : Bytes) (body : FieldBody ℕ) (c : Option (Cell ℕ)) → TouchesAt TakesNone s o c (at_object st t s o (Set o x body) c)
at_set st t s o x body (Some (ObjectCell flags owner fields)) =
    when_clear TakesNone s o (Some (ObjectCell flags owner fields)) (is_clear same_loc s o flags owner) (on_object st t s o (Set o x body) flags owner fields) (λ e. touches_set st s o (Some (ObjectCell flags owner fields)) flags owner fields x body (field x fields) (clear_of s o flags owner fields e))
at_set st t s o x body _ = tt

at_copy : (st : Store ℕ) (t : ℕ) (s : Self ℕ) (o : ℕ) (first : Option Flags) (copied : Fields ℕ) (rest : List ℕ) (c : Option (Cell ℕ)) → TouchesAt TakesNone s o c (at_object st t s o (Copy o first copied rest) c)
at_copy st t s o first copied rest (Some (ObjectCell flags owner fields)) =
    when_clear TakesNone s o (Some (ObjectCell flags owner fields)) (is_clear same_loc s o flags owner) (on_object st t s o (Copy o first copied rest) flags owner fields)
    (λ e. touches_if TakesNone s o (Some (ObjectCell flags owner fields)) (is_refused same_loc s o flags) (Acting ActKind.Copy o st is_protected) (Acting ActKind.Copy o st (Form (Cloning (Some (unwrap_or first flags)) (append_fields copied fields) rest) End))
    ((refl, clear_of s o flags owner fields e), (refl, refl)) ((refl, clear_of s o flags owner fields e), (refl, refl)))
at_copy st t s o first copied rest _ = tt

at_redirect : (st : Store ℕ) (t : ℕ) (s : Self ℕ) (o : ℕ) (target : ℕ) (c : Option (Cell ℕ)) → TouchesAt TakesNone s o c (at_object st t s o (RedirectTo o target) c)
at_redirect st t s o target (Some (ObjectCell flags owner fields)) =
    when_clear TakesNone s o (Some (ObjectCell flags owner fields)) (is_clear same_loc s o flags owner) (on_object st t s o (RedirectTo o target) flags owner fields)
    (λ e. touches_if TakesNone s o (Some (ObjectCell flags owner fields)) (is_refused same_loc s o flags) (Acting ActKind.Redirect o st is_protected) (Acting ActKind.Redirect o (with_cell st o (ObjectCell flags owner (aliased target fields))) (Const Okay))
    ((refl, clear_of s o flags owner fields e), (refl, refl)) ((refl, clear_of s o flags owner fields e), (refl, refl)))
at_redirect st t s o target _ = tt

-- ---- the other operations

-- an outcome that is no operation on an object
abbrev Elsewhere : Outcome → Type 0
Elsewhere Waiting = Unit {0}
Elsewhere (Forking loc new focus) = Unit {0}
Elsewhere (Acting kind loc st focus) = IsElsewhere kind × TakesNone kind

elsewhere_item : (st : Store ℕ) (a : ℕ) (f : Value ℕ → Term ℕ) (v : Option (Value ℕ)) → Elsewhere (item st a f v)
elsewhere_item st a f None = ((refl, refl), (refl, refl))
elsewhere_item st a f (Some v) = ((refl, refl), (refl, refl))

elsewhere_if : (b : Bool) (x y : Outcome) → Elsewhere x → Elsewhere y → Elsewhere (if b then x else y)
elsewhere_if true x y h k = h
elsewhere_if false x y h k = k

elsewhere_set_item : (st : Store ℕ) (a : ℕ) (i : ℤ) (v : Value ℕ) (c : Option (Cell ℕ)) → Elsewhere (set_item st a i v c)
elsewhere_set_item st a (pos i) v (Some (ArrayCell vs)) =
    elsewhere_if (nat_lt i (length vs)) (Acting ActKind.ArraySet a (with_cell st a (ArrayCell (slice_set vs i v))) (Const Okay)) (Acting ActKind.ArraySet a st array_index) ((refl, refl), (refl, refl)) ((refl, refl), (refl, refl))
elsewhere_set_item st a (negsuc i) v (Some (ArrayCell vs)) = ((refl, refl), (refl, refl))
elsewhere_set_item st a i v _ = tt

elsewhere_set_variable : (st : Store ℕ) (l : ℕ) (v : Value ℕ) (c : Option (Cell ℕ)) → Elsewhere (set_variable st l v c)
elsewhere_set_variable st l v (Some (VariableCell old)) = ((refl, refl), (refl, refl))
elsewhere_set_variable st l v _ = tt

elsewhere_write : (st : Store ℕ) (w : ℕ) (x : Bytes) (c : Option (Cell ℕ)) → Elsewhere (write st w x c)
elsewhere_write st w x (Some (WriterCell old)) = ((refl, refl), (refl, refl))
elsewhere_write st w x _ = tt

elsewhere_line : (kind : ActKind) (st : Store ℕ) (q : ℕ) (f : List ℕ → List ℕ) (focus : Term ℕ) (c : Option (Cell ℕ)) → IsElsewhere kind × TakesNone kind → Elsewhere (with_line kind st q f focus c)
elsewhere_line kind st q f focus (Some (ConditionCell line)) h = h
elsewhere_line kind st q f focus _ h = tt

elsewhere_imported : (st : Store ℕ) (b : Bool) (v : Option (Value ℕ)) → Elsewhere (imported st b v)
elsewhere_imported st b None = tt
elsewhere_imported st false (Some v) = ((refl, refl), (refl, refl))
elsewhere_imported st true (Some (Loc Engine n)) = ((refl, refl), (refl, refl))
elsewhere_imported st true (Some _) = ((refl, refl), (refl, refl))

elsewhere_joined : (st : Store ℕ) (u : ℕ) (o : Option ThreadState) → Elsewhere (joined st u o)
elsewhere_joined st u None = tt
elsewhere_joined st u (Some state) = by_execution state.execution
  where
    by_execution : (l : Execution) → Elsewhere (elim l [ Running t ↦ Waiting | Returned v ↦ Acting ActKind.Join u st (Const v) | Failed e ↦ Acting ActKind.Join u st (raise e) ])
    by_execution (Running v) = tt
    by_execution (Returned v) = ((refl, refl), (refl, refl))
    by_execution (Failed e) = ((refl, refl), (refl, refl))

-- such an outcome of an operation that is on no object
of_array : (st : Store ℕ) (s : Self ℕ) (a : ℕ) (i : ℤ) (x : Outcome) → Elsewhere x → ActOf st s (GetItem a i) x
of_array st s a i Waiting h = tt
of_array st s a i (Forking loc new focus) h = tt
of_array st s a i (Acting kind loc st' focus) h = h

of_each : (st : Store ℕ) (s : Self ℕ) (a i n : ℕ) (scope : Term ℕ) (x : Outcome) → Elsewhere x → ActOf st s (EachItem a i n scope) x
of_each st s a i n scope Waiting h = tt
of_each st s a i n scope (Forking loc new focus) h = tt
of_each st s a i n scope (Acting kind loc st' focus) h = h

of_set_item : (st : Store ℕ) (s : Self ℕ) (a : ℕ) (i : ℤ) (v : Value ℕ) (x : Outcome) → Elsewhere x → ActOf st s (SetItem a i v) x
of_set_item st s a i v Waiting h = tt
of_set_item st s a i v (Forking loc new focus) h = tt
of_set_item st s a i v (Acting kind loc st' focus) h = h

of_set_variable : (st : Store ℕ) (s : Self ℕ) (l : ℕ) (v : Value ℕ) (x : Outcome) → Elsewhere x → ActOf st s (SetVariable l v) x
of_set_variable st s l v Waiting h = tt
of_set_variable st s l v (Forking loc new focus) h = tt
of_set_variable st s l v (Acting kind loc st' focus) h = h

of_write : (st : Store ℕ) (s : Self ℕ) (w : ℕ) (t : Bytes) (x : Outcome) → Elsewhere x → ActOf st s (Write w t) x
of_write st s w t Waiting h = tt
of_write st s w t (Forking loc new focus) h = tt
of_write st s w t (Acting kind loc st' focus) h = h

of_fork : (st : Store ℕ) (s : Self ℕ) (f : Value ℕ) (x : Outcome) → Elsewhere x → ActOf st s (ForkOff f) x
of_fork st s f Waiting h = tt
of_fork st s f (Forking loc new focus) h = tt
of_fork st s f (Acting kind loc st' focus) h = h

of_join : (st : Store ℕ) (s : Self ℕ) (u : ℕ) (x : Outcome) → Elsewhere x → ActOf st s (JoinWith u) x
of_join st s u Waiting h = tt
of_join st s u (Forking loc new focus) h = tt
of_join st s u (Acting kind loc st' focus) h = h

of_line_up : (st : Store ℕ) (s : Self ℕ) (o c : ℕ) (guard : Term ℕ) (x : Outcome) → Elsewhere x → ActOf st s (LineUp o c guard) x
of_line_up st s o c guard Waiting h = tt
of_line_up st s o c guard (Forking loc new focus) h = tt
of_line_up st s o c guard (Acting kind loc st' focus) h = h

of_signal : (st : Store ℕ) (s : Self ℕ) (c : ℕ) (x : Outcome) → Elsewhere x → ActOf st s (Signal c) x
of_signal st s c Waiting h = tt
of_signal st s c (Forking loc new focus) h = tt
of_signal st s c (Acting kind loc st' focus) h = h

of_broadcast : (st : Store ℕ) (s : Self ℕ) (c : ℕ) (x : Outcome) → Elsewhere x → ActOf st s (Broadcast c) x
of_broadcast st s c Waiting h = tt
of_broadcast st s c (Forking loc new focus) h = tt
of_broadcast st s c (Acting kind loc st' focus) h = h

of_import : (st : Store ℕ) (s : Self ℕ) (n : Bytes) (b : Bool) (x : Outcome) → Elsewhere x → ActOf st s (Import n b) x
of_import st s n b Waiting h = tt
of_import st s n b (Forking loc new focus) h = tt
of_import st s n b (Acting kind loc st' focus) h = h

again_act : (st : Store ℕ) (s : Self ℕ) (t o c : ℕ) (guard : Term ℕ) (b : Bool) → ActOf st s (Again o c guard) (if b then Waiting else Acting ActKind.Again o (owned_by (Some t) st o (cell_at st o)) (testing o c guard))
again_act st s t o c guard true = tt
again_act st s t o c guard false = (refl, refl)

pub act_of : (k : Config) (t : ℕ) (s : Self ℕ) (op : Operation ℕ) → ActOf k.store s op (perform k t s op)
act_of k t s (New cell after) = ((refl, refl), (refl, refl))
act_of k t s (Get o x) = at_get k.store t s o x (cell_at k.store o)
act_of k t s (CallMethod o x vs) = at_call k.store t s o x vs (cell_at k.store o)
act_of k t s (Set o x body) = at_set k.store t s o x body (cell_at k.store o)
act_of k t s (Copy o first copied rest) = at_copy k.store t s o first copied rest (cell_at k.store o)
act_of k t s (RedirectTo o target) = at_redirect k.store t s o target (cell_at k.store o)
act_of k t s (Leave o left) = (refl, refl)
act_of k t s (GetItem a i) = of_array k.store s a i (perform k t s (GetItem a i)) (elsewhere_item k.store a (λ v. Const v) (item_at (items_of (cell_at k.store a)) i))
act_of k t s (GetSize a) = ((refl, refl), (refl, refl))
act_of k t s (EachSize a scope) = ((refl, refl), (refl, refl))
act_of k t s (EachItem a i n scope) = of_each k.store s a i n scope (perform k t s (EachItem a i n scope)) (elsewhere_item k.store a (λ v. Form (EachIn a i n) (Part (enter (v ∷ []) scope) (Part scope End))) (slice_get (items_of (cell_at k.store a)) i))
act_of k t s (SetItem a i v) = of_set_item k.store s a i v (perform k t s (SetItem a i v)) (elsewhere_set_item k.store a i v (cell_at k.store a))
act_of k t s (ReadVariable l) = ((refl, refl), (refl, refl))
act_of k t s (SetVariable l v) = of_set_variable k.store s l v (perform k t s (SetVariable l v)) (elsewhere_set_variable k.store l v (cell_at k.store l))
act_of k t s (Write w x) = of_write k.store s w x (perform k t s (Write w x)) (elsewhere_write k.store w x (cell_at k.store w))
act_of k t s (ForkOff f) =
    of_fork k.store s f (perform k t s (ForkOff f))
    (elsewhere_if (nat_le THREAD_LIMIT (length k.threads)) (Acting ActKind.Fork THREAD_LIMIT k.store fork_limit) (Forking (length k.threads) (Form Call (Part (Const f) End)) (Const (Thread (length k.threads)))) ((refl, refl), (refl, refl)) tt)
act_of k t s (JoinWith u) = of_join k.store s u (perform k t s (JoinWith u)) (elsewhere_joined k.store u (slice_get k.threads u))
act_of k t s (LineUp o q guard) = of_line_up k.store s o q guard (perform k t s (LineUp o q guard)) (elsewhere_line ActKind.Line k.store q (λ line. line ++ t ∷ []) (Form (Lined o q) (Part guard End)) (cell_at k.store q) ((refl, refl), (refl, refl)))
act_of k t s (GiveUp o q guard) = (refl, refl)
act_of k t s (Again o q guard) = again_act k.store s t o q guard (in_line t (line_of (cell_at k.store q)) || not (is_free (cell_at k.store o)))
act_of k t s (Signal q) = of_signal k.store s q (perform k t s (Signal q)) (elsewhere_line ActKind.Signal k.store q (drop 1) (Const Okay) (cell_at k.store q) ((refl, refl), (refl, refl)))
act_of k t s (Broadcast q) = of_broadcast k.store s q (perform k t s (Broadcast q)) (elsewhere_line ActKind.Broadcast k.store q (λ line. []) (Const Okay) (cell_at k.store q) ((refl, refl), (refl, refl)))
act_of k t s (Export x v) = ((refl, refl), (refl, refl))
act_of k t s (Import x b) = of_import k.store s x b (perform k t s (Import x b)) (elsewhere_imported k.store b (exported x k.store.names))
act_of k t s (RunEngine e f) = ((refl, refl), (refl, refl))
