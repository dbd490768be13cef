-- No thread of a replay has more than 1,000 activations.
use Rattle.std.specs.Prelude.{Bool, List, None, Option, Some, [], drop, false, if◌then◌else◌, length, nat_le, nat_lt, negsuc, not, pos, refl, slice_get, slice_set, suc, true, unwrap_or, zero, ℕ, ℤ, ◌++◌, ◌+◌, ◌==◌, ◌<◌, ◌∷◌, ◌≡◌, ◌≤◌, ◌||◌, ◌⊎◌}
use Rattle.std.proofs.Common.{inl, inr, subst, ap, sym, ◌∙◌, arith}
use Rattle.obq_base.specs.declared.limits.TheConstants.{THREAD_LIMIT}
use Rattle.obq_base.specs.declared.acts.ActKind.{ActKind}
use Rattle.obq_base.specs.declared.acts.Act.{Act}
use Rattle.obq_base.specs.declared.trees.Flags.{Flags}
use Rattle.obq_base.specs.Tree.{BlockTree}
use Rattle.obq_model.specs.Terms.{Bytes, Object, Variable, Engine, Raised, Exn, ExitUp, Value, Okay, Thread, Loc, FieldBody, IsValue, IsMethod, IsAlias, Fields, Kind, Call, Called, Within, EachIn, Cloning, Lined, Term, Const, Form, End, Part}
use Rattle.obq_model.specs.Put.{put_all, enter}
use Rattle.obq_model.specs.Exceptions.{raise, arity, array_index, is_protected, fork_limit}
use Rattle.obq_model.specs.Store.{Cell, ObjectCell, ArrayCell, VariableCell, WriterCell, ConditionCell, EngineCell, Store, same_loc, field, with_field, append_fields, aliased, exported}
use Rattle.obq_model.specs.Step.{Self, no_self, After, Itself, Entered, Offered, Operation, New, Get, CallMethod, Leave, Set, Copy, RedirectTo, GetItem, GetSize, EachSize, EachItem, SetItem, ReadVariable, SetVariable, Write, ForkOff, JoinWith, LineUp, GiveUp, Again, Signal, Broadcast, Export, Import, RunEngine, Frame, Pending, plug, Found, Next, Needs, Done, Uncaught, find, next_of, self_in, self_at, body_with, testing}
use Rattle.obq_model.specs.Forms.{IsSourceValue, AllSource, marks_of}
use Rattle.obq_model.specs.Config.{Execution, Running, Returned, Failed, ThreadState, Config, cell_at, with_cell}
use Rattle.obq_model.specs.Cells.{is_clear, is_refused, mode_for, owner_for, set_at_target, is_alias, items_of, item_at, value_of, is_free, after_new}
use Rattle.obq_model.specs.Effect.{Outcome, Waiting, Acting, Forking, get, invoke, set_here, set_field, on_object, at_object, item, set_item, set_variable, write, with_line, owned_by, line_of, in_line, imported, joined, perform, end_by}
use Rattle.obq_model.specs.Located.{AtCell, place_of, activations_of}
use Rattle.obq_model.specs.Opening.{block_term, opening_terms, new_threads}
use Rattle.obq_laws.specs.ActivationSites.{objects_in, objects_of, objects_around, left_objects, Listed}
use Rattle.obq_laws.specs.Activations.{may_enter, ActivationsLaw}
use Rattle.obq_laws.specs.Keeping.{IsSourceStore, IsFormedConfig, IsFormedIf}
use Rattle.obq_laws.specs.Turns.{state_of, alone, CanGo, Turn, Steps, Acts, Forks, Ends, Raises}
use Rattle.obq_laws.proofs.Source.{source_put_all, source_enter}
use Rattle.obq_laws.proofs.Methods.{IsSourceAfter, IsSourceOperation, AreSourceFrames, IsGood, good_find, source_body}
use Rattle.obq_laws.proofs.Acts.{IsSourceSome, source_get, IsSourceBody, source_field}
use Rattle.obq_laws.proofs.Opened.{source_block}
use Rattle.obq_laws.proofs.Formed.{GoodThreadState, good_state, entry_formed, opening_of_formed}
use Rattle.obq_laws.proofs.Turns.{turn_taken, kept_by_replay}
use Rattle.obq_laws.proofs.Activated.{source_bare, sources_bare, source_none, bare_before, with_bare, objects_long, found_objects}

-- ---- what stands at the focus

-- the operation calls a method of this object
abbrev pub IsMethodCall : Operation ℕ → ℕ → Type 0
IsMethodCall (CallMethod p x vs) o = p ≡ o
IsMethodCall op o = ⊥

-- it may begin this activation
abbrev pub IsEntered : Operation ℕ → Option ℕ → Type 0
IsEntered op None = Unit {0}
IsEntered op (Some o) = IsMethodCall op o

-- no activation, or one where the operation may begin it
abbrev pub FewAt : Operation ℕ → Term ℕ → Type 0
FewAt op focus = (objects_of focus ≡ []) ⊎ ((x : Option ℕ) × (objects_of focus ≡ x ∷ []) × (may_enter op ≡ true) × IsEntered op x)

abbrev pub FewOutcome : Operation ℕ → Outcome → Type 0
FewOutcome op Waiting = Unit {0}
FewOutcome op (Acting kind loc st focus) = FewAt op focus
FewOutcome op (Forking loc new focus) = (objects_of new ≡ []) × (objects_of focus ≡ []) × (left_objects op ≡ [])

few_if : (op : Operation ℕ) (b : Bool) (x y : Outcome) → FewOutcome op x → FewOutcome op y → FewOutcome op (if b then x else y)
few_if op true x y h i = h
few_if op false x y h i = i

few_get : (st : Store ℕ) (o : ℕ) (x : Bytes) (b : Option (FieldBody ℕ)) → FewOutcome (Get o x) (get st o b)
few_get st o x None = inl refl
few_get st o x (Some (IsValue v)) = inl refl
few_get st o x (Some (IsMethod params body)) = inl refl
few_get st o x (Some (IsAlias p y)) = inl refl

few_invoke : (st : Store ℕ) (t : ℕ) (s : Self ℕ) (o p : ℕ) (x : Bytes) (flags : Flags) (owner : Option ℕ) (fields : Fields ℕ) (vs : List (Value ℕ)) (b : Option (FieldBody ℕ)) → p ≡ o → AllSource vs → IsSourceBody b → FewOutcome (CallMethod p x vs) (invoke st t s o flags owner fields vs b)
few_invoke st t s o p x flags owner fields vs None e k h = inl refl
few_invoke st t s o p x flags owner fields vs (Some (IsValue v)) e k h = inl refl
few_invoke st t s o p x flags owner fields vs (Some (IsAlias q y)) e k h = inl (bare_before (Loc Object q ∷ vs) End)
few_invoke st t s o p x flags owner fields vs (Some (IsMethod params body)) e k h =
    few_if (CallMethod p x vs) (length params == suc (length vs))
    (Acting ActKind.Call o (with_cell st o (ObjectCell flags (owner_for same_loc s o flags t owner) fields)) (Form (Within o (mode_for same_loc s o flags)) (Part (put_all (Loc Object o ∷ vs) params body) End)))
    (Acting ActKind.Call o st arity)
    (inr (Some o, ap (λ os. os ++ Some o ∷ []) (sources_bare (Part (put_all (Loc Object o ∷ vs) params body) End) (source_put_all (Loc Object o ∷ vs) params body (tt, k) h, tt)), refl, e)) (inl refl)

few_set_target : (op : Operation ℕ) (p : ℕ) (y : Bytes) (body : FieldBody ℕ) → FewAt op (set_at_target p y body)
few_set_target op p y (IsValue v) = inl refl
few_set_target op p y (IsMethod params body) = inl refl
few_set_target op p y (IsAlias q z) = inl refl

few_set_here : (op : Operation ℕ) (st : Store ℕ) (s : Self ℕ) (o : ℕ) (flags : Flags) (owner : Option ℕ) (fields : Fields ℕ) (x : Bytes) (body : FieldBody ℕ) → FewOutcome op (set_here st s o flags owner fields x body)
few_set_here op st s o flags owner fields x body =
    few_if op (is_refused same_loc s o flags) (Acting ActKind.Set o st is_protected) (Acting ActKind.Set o (with_cell st o (ObjectCell flags owner (with_field x body fields))) (Const Okay)) (inl refl) (inl refl)

few_set : (op : Operation ℕ) (st : Store ℕ) (s : Self ℕ) (o : ℕ) (flags : Flags) (owner : Option ℕ) (fields : Fields ℕ) (x : Bytes) (body : FieldBody ℕ) (b : Option (FieldBody ℕ)) → FewOutcome op (set_field st s o flags owner fields x body b)
few_set op st s o flags owner fields x body None = inl refl
few_set op st s o flags owner fields x body (Some (IsAlias p y)) =
    few_if op (is_alias body) (set_here st s o flags owner fields x body) (Acting ActKind.Hop o st (set_at_target p y body)) (few_set_here op st s o flags owner fields x body) (few_set_target op p y body)
few_set op st s o flags owner fields x body (Some (IsValue v)) = few_set_here op st s o flags owner fields x body
few_set op st s o flags owner fields x body (Some (IsMethod params b)) = few_set_here op st s o flags owner fields x body

-- a call of a method is of this object
abbrev IsOn : Operation ℕ → ℕ → Type 0
IsOn (CallMethod p x vs) o = p ≡ o
IsOn op o = Unit {0}

few_on_object : (st : Store ℕ) (t : ℕ) (s : Self ℕ) (o : ℕ) (op : Operation ℕ) (flags : Flags) (owner : Option ℕ) (fields : Fields ℕ) → IsOn op o → IsSourceOperation s op → IsSourceSome (Some (ObjectCell flags owner fields)) → FewOutcome op (on_object st t s o op flags owner fields)
few_on_object st t s o (Get p x) flags owner fields e h f = few_get st o x (field x fields)
few_on_object st t s o (CallMethod p x vs) flags owner fields e h f = few_invoke st t s o p x flags owner fields vs (field x fields) e h (source_field x fields f)
few_on_object st t s o (Set p x body) flags owner fields e h f = few_set (Set p x body) st s o flags owner fields x body (field x fields)
few_on_object st t s o (Copy p first copied rest) flags owner fields e h f =
    few_if (Copy p first copied rest) (is_refused same_loc s o flags) (Acting ActKind.Copy o st is_protected) (Acting ActKind.Copy o st (Form (Cloning (Some (unwrap_or first flags)) (append_fields copied fields) rest) End)) (inl refl) (inl refl)
few_on_object st t s o (RedirectTo p target) flags owner fields e h f =
    few_if (RedirectTo p target) (is_refused same_loc s o flags) (Acting ActKind.Redirect o st is_protected) (Acting ActKind.Redirect o (with_cell st o (ObjectCell flags owner (aliased target fields))) (Const Okay)) (inl refl) (inl refl)
few_on_object st t s o _ flags owner fields e h f = tt

few_at_object : (st : Store ℕ) (t : ℕ) (s : Self ℕ) (o : ℕ) (op : Operation ℕ) (c : Option (Cell ℕ)) → IsOn op o → IsSourceOperation s op → IsSourceSome c → FewOutcome op (at_object st t s o op c)
few_at_object st t s o op (Some (ObjectCell flags owner fields)) e h f = few_if op (is_clear same_loc s o flags owner) (on_object st t s o op flags owner fields) Waiting (few_on_object st t s o op flags owner fields e h f) tt
few_at_object st t s o op _ e h f = tt

abbrev SourceIf : Option (Value ℕ) → Type 0
SourceIf None = Unit {0}
SourceIf (Some v) = IsSourceValue v

few_item : (op : Operation ℕ) (st : Store ℕ) (a : ℕ) (f : Value ℕ → Term ℕ) (v : Option (Value ℕ)) → ((w : Value ℕ) → IsSourceValue w → FewAt op (f w)) → SourceIf v → FewOutcome op (item st a f v)
few_item op st a f None h i = inl refl
few_item op st a f (Some v) h i = h v i

items_source : (c : Option (Cell ℕ)) → IsSourceSome c → AllSource (items_of c)
items_source (Some (ArrayCell vs)) h = h
items_source _ h = tt

item_source : (vs : List (Value ℕ)) (k : ℕ) → AllSource vs → SourceIf (slice_get vs k)
item_source [] k h = tt
item_source (v ∷ vs) zero h = h.0
item_source (v ∷ vs) (suc k) h = item_source vs k h.1

item_at_source : (vs : List (Value ℕ)) (i : ℤ) → AllSource vs → SourceIf (item_at vs i)
item_at_source vs (pos i) h = item_source vs i h
item_at_source vs (negsuc i) h = tt

value_source : (c : Option (Cell ℕ)) → IsSourceSome c → IsSourceValue (value_of c)
value_source (Some (VariableCell v)) h = h
value_source (Some (EngineCell v)) h = h
value_source _ h = tt

few_set_item : (op : Operation ℕ) (st : Store ℕ) (a : ℕ) (i : ℤ) (v : Value ℕ) (c : Option (Cell ℕ)) → FewOutcome op (set_item st a i v c)
few_set_item op st a (pos i) v (Some (ArrayCell vs)) = few_if op (nat_lt i (length vs)) (Acting ActKind.ArraySet a (with_cell st a (ArrayCell (slice_set vs i v))) (Const Okay)) (Acting ActKind.ArraySet a st array_index) (inl refl) (inl refl)
few_set_item op st a (negsuc i) v (Some (ArrayCell vs)) = inl refl
few_set_item op st a i v _ = tt

few_set_variable : (op : Operation ℕ) (st : Store ℕ) (l : ℕ) (v : Value ℕ) (c : Option (Cell ℕ)) → FewOutcome op (set_variable st l v c)
few_set_variable op st l v (Some (VariableCell old)) = inl refl
few_set_variable op st l v _ = tt

few_write : (op : Operation ℕ) (st : Store ℕ) (w : ℕ) (x : Bytes) (c : Option (Cell ℕ)) → FewOutcome op (write st w x c)
few_write op st w x (Some (WriterCell old)) = inl refl
few_write op st w x _ = tt

few_line : (op : Operation ℕ) (kind : ActKind) (st : Store ℕ) (q : ℕ) (f : List ℕ → List ℕ) (focus : Term ℕ) (c : Option (Cell ℕ)) → FewAt op focus → FewOutcome op (with_line kind st q f focus c)
few_line op kind st q f focus (Some (ConditionCell line)) h = h
few_line op kind st q f focus _ h = tt

few_after : (op : Operation ℕ) (after : After ℕ) (n : ℕ) (c : Cell ℕ) → IsSourceAfter after → FewAt op (after_new after n c)
few_after op Itself n (ObjectCell flags owner fields) h = inl refl
few_after op Itself n (ArrayCell vs) h = inl refl
few_after op Itself n (VariableCell v) h = inl refl
few_after op Itself n (WriterCell bytes) h = inl refl
few_after op Itself n (ConditionCell line) h = inl refl
few_after op Itself n (EngineCell v) h = inl refl
few_after op (Entered scope) n c h = inl (source_bare (enter (Loc Variable n ∷ []) scope) (source_enter (Loc Variable n ∷ []) scope (tt, tt) h))
few_after op (Offered name namer) n c h = inl refl

few_imported : (op : Operation ℕ) (st : Store ℕ) (engine : Bool) (v : Option (Value ℕ)) → FewOutcome op (imported st engine v)
few_imported op st engine None = tt
few_imported op st false (Some v) = inl refl
few_imported op st true (Some (Loc Engine e)) = inl refl
few_imported op st true (Some _) = inl refl

few_joined : (op : Operation ℕ) (st : Store ℕ) (u : ℕ) (o : Option ThreadState) → FewOutcome op (joined st u o)
few_joined op st u None = tt
few_joined op st u (Some state) = by state.execution
  where
    by : (l : Execution) → FewOutcome op (elim l [ Running t ↦ Waiting | Returned v ↦ Acting ActKind.Join u st (Const v) | Failed e ↦ Acting ActKind.Join u st (raise e) ])
    by (Running t) = tt
    by (Returned v) = inl refl
    by (Failed e) = inl refl

pub few_perform : (k : Config) (t : ℕ) (s : Self ℕ) (op : Operation ℕ) → IsSourceStore k.store → IsSourceOperation s op → FewOutcome op (perform k t s op)
few_perform k t s (New cell after) i h = few_after (New cell after) after (length k.store.cells) cell h.1
few_perform k t s (Get o x) i h = few_at_object k.store t s o (Get o x) (cell_at k.store o) tt h (source_get k.store.cells o i.0)
few_perform k t s (CallMethod o x vs) i h = few_at_object k.store t s o (CallMethod o x vs) (cell_at k.store o) refl h (source_get k.store.cells o i.0)
few_perform k t s (Set o x body) i h = few_at_object k.store t s o (Set o x body) (cell_at k.store o) tt h (source_get k.store.cells o i.0)
few_perform k t s (Copy o first copied rest) i h = few_at_object k.store t s o (Copy o first copied rest) (cell_at k.store o) tt h (source_get k.store.cells o i.0)
few_perform k t s (RedirectTo o target) i h = few_at_object k.store t s o (RedirectTo o target) (cell_at k.store o) tt h (source_get k.store.cells o i.0)
few_perform k t s (Leave o out) i h = inl (source_bare out h)
few_perform k t s (GetItem a j) i h = few_item (GetItem a j) k.store a (λ v. Const v) (item_at (items_of (cell_at k.store a)) j) (λ w q. inl refl) (item_at_source (items_of (cell_at k.store a)) j (items_source (cell_at k.store a) (source_get k.store.cells a i.0)))
few_perform k t s (GetSize a) i h = inl refl
few_perform k t s (EachSize a scope) i h = inl (sources_bare (Part scope End) (h, tt))
few_perform k t s (EachItem a j n scope) i h =
    few_item (EachItem a j n scope) k.store a (λ v. Form (EachIn a j n) (Part (enter (v ∷ []) scope) (Part scope End))) (slice_get (items_of (cell_at k.store a)) j)
    (λ w q. inl (sources_bare (Part (enter (w ∷ []) scope) (Part scope End)) (source_enter (w ∷ []) scope (q, tt) h, (h, tt)))) (item_source (items_of (cell_at k.store a)) j (items_source (cell_at k.store a) (source_get k.store.cells a i.0)))
few_perform k t s (SetItem a j v) i h = few_set_item (SetItem a j v) k.store a j v (cell_at k.store a)
few_perform k t s (ReadVariable l) i h = inl refl
few_perform k t s (SetVariable l v) i h = few_set_variable (SetVariable l v) k.store l v (cell_at k.store l)
few_perform k t s (Write w x) i h = few_write (Write w x) k.store w x (cell_at k.store w)
few_perform k t s (ForkOff f) i h = few_if (ForkOff f) (nat_le THREAD_LIMIT (length k.threads)) (Acting ActKind.Fork THREAD_LIMIT k.store fork_limit) (Forking (length k.threads) (Form Call (Part (Const f) End)) (Const (Thread (length k.threads)))) (inl refl) (refl, refl, refl)
few_perform k t s (JoinWith u) i h = few_joined (JoinWith u) k.store u (slice_get k.threads u)
few_perform k t s (LineUp o c guard) i h = few_line (LineUp o c guard) ActKind.Line k.store c (λ line. line ++ t ∷ []) (Form (Lined o c) (Part guard End)) (cell_at k.store c) (inl (sources_bare (Part guard End) (h.0, tt)))
few_perform k t s (GiveUp o c guard) i h = inl (sources_bare (Part guard End) (h.0, tt))
few_perform k t s (Again o c guard) i h =
    few_if (Again o c guard) (in_line t (line_of (cell_at k.store c)) || not (is_free (cell_at k.store o))) Waiting (Acting ActKind.Again o (owned_by (Some t) k.store o (cell_at k.store o)) (testing o c guard))
    tt (inl (sources_bare (Part guard (Part guard End)) (h.0, (h.0, tt))))
few_perform k t s (Signal c) i h = few_line (Signal c) ActKind.Signal k.store c (drop 1) (Const Okay) (cell_at k.store c) (inl refl)
few_perform k t s (Broadcast c) i h = few_line (Broadcast c) ActKind.Broadcast k.store c (λ line. []) (Const Okay) (cell_at k.store c) (inl refl)
few_perform k t s (Export x v) i h = inl refl
few_perform k t s (Import x engine) i h = few_imported (Import x engine) k.store engine (exported x k.store.names)
few_perform k t s (RunEngine e f) i h =
    inr (None, ap (λ os. os ++ None ∷ []) (sources_bare (Part (body_with f (value_of (cell_at k.store e) ∷ [])) End) (source_body f (value_of (cell_at k.store e) ∷ []) h (value_source (cell_at k.store e) (source_get k.store.cells e i.0), tt), tt)), refl, tt)

-- ---- in the hole of frames

-- the activations of the whole are those in the hole and those around it
pub objects_plug : (s : Self ℕ) (fs : List (Frame ℕ)) (t : Term ℕ) → AreSourceFrames s fs → objects_of (plug fs t) ≡ objects_around fs (objects_of t)
objects_plug s [] t h = refl
objects_plug s (Pending k before after ∷ fs) t h =
    ap (λ os. objects_in os k) (bare_before before (Part (plug fs t) after) ∙ with_bare (plug fs t) after h.0.3 ∙ objects_plug (self_in s k) fs t h.1)

one_around : (fs : List (Frame ℕ)) (x : Option ℕ) → objects_around fs (x ∷ []) ≡ x ∷ objects_around fs []
one_around [] x = refl
one_around (Pending k before after ∷ fs) x = ap (λ os. objects_in os k) (one_around fs x) ∙ in_form k (objects_around fs [])
  where
    in_form : (k : Kind ℕ) (os : List (Option ℕ)) → objects_in (x ∷ os) k ≡ x ∷ objects_in os k
    in_form (Within o m) os = refl
    in_form Called os = refl
    in_form k os = refl

-- an act keeps the activations, begins one that its operation may begin, or leaves the innermost, which is a method of the object that it is on
abbrev pub Moved : Operation ℕ → List (Option ℕ) → List (Option ℕ) → Type 0
Moved op os os2 = (os2 ≡ os) ⊎ ((x : Option ℕ) × (os2 ≡ x ∷ os) × (may_enter op ≡ true) × IsEntered op x) ⊎ ((o : ℕ) × (os ≡ Some o ∷ os2) × (place_of op ≡ AtCell o))

one_left : (op : Operation ℕ) → (left_objects op ≡ []) ⊎ ((o : ℕ) × (left_objects op ≡ Some o ∷ []) × (place_of op ≡ AtCell o))
one_left (Leave o out) = inr (o, refl, refl)
one_left op = inl refl

no_left : (op : Operation ℕ) → may_enter op ≡ true → left_objects op ≡ []
no_left (Leave o out) e = absurd (cc e)
no_left op e = refl

pub act_moves : (os : List (Option ℕ)) (op : Operation ℕ) (fs : List (Frame ℕ)) (focus : Term ℕ) → Listed 0 os (Needs op fs) → AreSourceFrames no_self fs → FewAt op focus → Moved op os (objects_of (plug fs focus))
act_moves os op fs focus h s (inl q) = by (one_left op)
  where
    whole : objects_of (plug fs focus) ≡ objects_around fs []
    whole = objects_plug no_self fs focus s ∙ ap (objects_around fs) q

    by : (left_objects op ≡ []) ⊎ ((o : ℕ) × (left_objects op ≡ Some o ∷ []) × (place_of op ≡ AtCell o)) → Moved op os (objects_of (plug fs focus))
    by (inl none) = inl (whole ∙ ap (objects_around fs) (sym none) ∙ sym h.0)
    by (inr (o, one, here)) = inr (inr (o, h.0 ∙ ap (objects_around fs) one ∙ one_around fs (Some o) ∙ ap (λ l. Some o ∷ l) (sym whole), here))
act_moves os op fs focus h s (inr (x, q, m, i)) =
    inr (inl (x, objects_plug no_self fs focus s ∙ ap (objects_around fs) q ∙ one_around fs x ∙ ap (λ l. x ∷ l) (sym (h.0 ∙ ap (objects_around fs) (no_left op m))), m, i))

-- ---- threads

abbrev FewExecution : Execution → Type 0
FewExecution (Running u) = activations_of u ≤ 1000
FewExecution (Returned v) = Unit {0}
FewExecution (Failed e) = Unit {0}

abbrev AreFewThreads : List ThreadState → Type 0
AreFewThreads [] = Unit {0}
AreFewThreads (s ∷ ss) = FewExecution s.execution × AreFewThreads ss

abbrev FewState : Option ThreadState → Type 0
FewState None = Unit {0}
FewState (Some s) = FewExecution s.execution

few_state : (ts : List ThreadState) (t : ℕ) → AreFewThreads ts → FewState (slice_get ts t)
few_state [] t h = tt
few_state (s ∷ ss) zero h = h.0
few_state (s ∷ ss) (suc t) h = few_state ss t h.1

set_few : (ts : List ThreadState) (t : ℕ) (s : ThreadState) → AreFewThreads ts → FewExecution s.execution → AreFewThreads (slice_set ts t s)
set_few [] t s h i = tt
set_few (x ∷ xs) zero s h i = (i, h.1)
set_few (x ∷ xs) (suc t) s h i = (h.0, set_few xs t s h.1 i)

add_few : (ts : List ThreadState) (s : ThreadState) → AreFewThreads ts → FewExecution s.execution → AreFewThreads (ts ++ s ∷ [])
add_few [] s h i = (i, tt)
add_few (x ∷ xs) s h i = (h.0, add_few xs s h.1 i)

-- ---- turns

-- a pure step keeps the activations, begins a closure's, or leaves the innermost
abbrev pub Stepped : List (Option ℕ) → List (Option ℕ) → Type 0
Stepped os os2 = (os2 ≡ os) ⊎ ((os2 ≡ None ∷ os) × (length os < 1000)) ⊎ ((x : Option ℕ) × (os ≡ x ∷ os2))

pub step_moves : (os : List (Option ℕ)) (x : Found ℕ) (v : Term ℕ) → Listed 0 os x → next_of x ≡ Some v → Stepped os (objects_of v)
step_moves os (Next u) v h e = let same : u ≡ v = cc e in subst (λ w. Stepped os (objects_of w)) same (by h)
  where
    room : (n : ℕ) → 0 + suc n ≤ 1000 → n < 1000
    room n l = omega arith

    by : Listed 0 os (Next u) → Stepped os (objects_of u)
    by (inl q) = inl q
    by (inr (inl q)) = inr (inl (q.0, room (length os) q.1))
    by (inr (inr q)) = inr (inr q)
step_moves os (Needs op fs) v h e = absurd (cc e)
step_moves os (Done w) v h e = absurd (cc e)
step_moves os (Uncaught r) v h e = absurd (cc e)

few_by : (v : Term ℕ) → length (objects_of v) ≤ 1000 → activations_of v ≤ 1000
few_by v l = subst (λ n. n ≤ 1000) (objects_long v) l

step_few : (os : List (Option ℕ)) (v : Term ℕ) → length os ≤ 1000 → Stepped os (objects_of v) → activations_of v ≤ 1000
step_few os v l (inl e) = few_by v (subst (λ xs. length xs ≤ 1000) (sym e) l)
step_few os v l (inr (inl e)) = few_by v (subst (λ xs. length xs ≤ 1000) (sym e.0) e.1)
step_few os v l (inr (inr (x, e))) = few_by v (fewer (length (objects_of v)) (subst (λ xs. length xs ≤ 1000) e l))
  where
    fewer : (n : ℕ) → suc n ≤ 1000 → n ≤ 1000
    fewer n l = omega arith

-- the term behind an act
act_few : (os : List (Option ℕ)) (op : Operation ℕ) (fs : List (Frame ℕ)) (v : Term ℕ) → Listed 0 os (Needs op fs) → length os ≤ 1000 → Moved op os (objects_of v) → activations_of v ≤ 1000
act_few os op fs v h l (inl e) = step_few os v l (inl e)
act_few os op fs v h l (inr (inl (x, e, m, i))) = few_by v (subst (λ xs. length xs ≤ 1000) (sym e) (room (length os) (h.1 m)))
  where
    room : (n : ℕ) → 0 + n < 1000 → suc n ≤ 1000
    room n l = omega arith
act_few os op fs v h l (inr (inr (o, e, i))) = step_few os v l (inr (inr (Some o, e)))

abbrev IsFewWell : Config → Type 0
IsFewWell k = IsFormedConfig k × AreFewThreads k.threads

-- what stands next in a thread, in source frames
pub next_acts : (turns : ℕ) (k : Config) (t : ℕ) (u : Term ℕ) (used : ℕ) → IsFormedConfig k → CanGo turns k t u used → Listed 0 (objects_of u) (find same_loc 0 no_self u)
next_acts turns k t u used c g =
    let good : GoodThreadState k.store (Some (state_of (Running u) used)) = subst (GoodThreadState k.store) g.is_there (good_state k.store k.threads t c.0.1 c.1) in
    found_objects same_loc 0 no_self u good.0

pub next_source : (turns : ℕ) (k : Config) (t : ℕ) (u : Term ℕ) (used : ℕ) (op : Operation ℕ) (fs : List (Frame ℕ)) → IsFormedConfig k → CanGo turns k t u used → find same_loc 0 no_self u ≡ Needs op fs → AreSourceFrames no_self fs × IsSourceOperation (self_at no_self fs) op
next_source turns k t u used op fs c g f =
    let good : GoodThreadState k.store (Some (state_of (Running u) used)) = subst (GoodThreadState k.store) g.is_there (good_state k.store k.threads t c.0.1 c.1) in
    let g2 : IsGood no_self (marks_of u) (Needs op fs) = subst (IsGood no_self (marks_of u)) f (good_find same_loc 0 no_self u good.0) in
    (g2.1, g2.2)

-- what an act that is done makes of the activations
pub acts_move : (turns : ℕ) (k : Config) (t : ℕ) (u : Term ℕ) (used : ℕ) (op : Operation ℕ) (fs : List (Frame ℕ)) (kind : ActKind) (loc : ℕ) (st : Store ℕ) (focus : Term ℕ) → IsFormedConfig k → CanGo turns k t u used → find same_loc 0 no_self u ≡ Needs op fs
    → perform k t (self_at no_self fs) op ≡ Acting kind loc st focus → Moved op (objects_of u) (objects_of (plug fs focus))
acts_move turns k t u used op fs kind loc st focus c g f p =
    let source = next_source turns k t u used op fs c g f in
    let few : FewOutcome op (Acting kind loc st focus) = subst (FewOutcome op) p (few_perform k t (self_at no_self fs) op c.0.0 source.1) in
    act_moves (objects_of u) op fs focus (subst (Listed 0 (objects_of u)) f (next_acts turns k t u used c g)) source.0 few

-- what a fork makes of them
pub forks_move : (turns : ℕ) (k : Config) (t : ℕ) (u : Term ℕ) (used : ℕ) (op : Operation ℕ) (fs : List (Frame ℕ)) (loc : ℕ) (new focus : Term ℕ) → IsFormedConfig k → CanGo turns k t u used → find same_loc 0 no_self u ≡ Needs op fs
    → perform k t (self_at no_self fs) op ≡ Forking loc new focus → Moved op (objects_of u) (objects_of (plug fs focus)) × (objects_of new ≡ [])
forks_move turns k t u used op fs loc new focus c g f p =
    let source = next_source turns k t u used op fs c g f in
    let few : FewOutcome op (Forking loc new focus) = subst (FewOutcome op) p (few_perform k t (self_at no_self fs) op c.0.0 source.1) in
    (act_moves (objects_of u) op fs focus (subst (Listed 0 (objects_of u)) f (next_acts turns k t u used c g)) source.0 (inl few.1), few.0)

few_here : (k : Config) (t used : ℕ) (u : Term ℕ) → AreFewThreads k.threads → slice_get k.threads t ≡ Some (state_of (Running u) used) → length (objects_of u) ≤ 1000
few_here k t used u c here = let few : activations_of u ≤ 1000 = subst FewState here (few_state k.threads t c) in subst (λ n. n ≤ 1000) (sym (objects_long u)) few

few_turn : (turns : ℕ) (k k2 : Config) (t : ℕ) (a : Option Act) → IsFewWell k → Turn turns k t a k2 → AreFewThreads k2.threads
few_turn turns k _ t _ c (Steps {u} {used} {v} g e) =
    set_few k.threads t (state_of (Running v) (suc used)) c.1 (step_few (objects_of u) v (few_here k t used u c.1 g.is_there) (step_moves (objects_of u) (find same_loc 0 no_self u) v (next_acts turns k t u used c.0 g) e))
few_turn turns k _ t _ c (Acts {u} {used} {op} {fs} {kind} {loc} {st} {focus} g f p) =
    set_few k.threads t (state_of (Running (plug fs focus)) (suc used)) c.1
    (act_few (objects_of u) op fs (plug fs focus) (subst (Listed 0 (objects_of u)) f (next_acts turns k t u used c.0 g)) (few_here k t used u c.1 g.is_there) (acts_move turns k t u used op fs kind loc st focus c.0 g f p))
few_turn turns k _ t _ c (Forks {u} {used} {op} {fs} {loc} {new} {focus} g f p) =
    let moved = forks_move turns k t u used op fs loc new focus c.0 g f p in
    add_few (slice_set k.threads t (state_of (Running (plug fs focus)) (suc used))) (state_of (Running new) 0)
    (set_few k.threads t (state_of (Running (plug fs focus)) (suc used)) c.1
    (act_few (objects_of u) op fs (plug fs focus) (subst (Listed 0 (objects_of u)) f (next_acts turns k t u used c.0 g)) (few_here k t used u c.1 g.is_there) moved.0))
    (few_by new (subst (λ os. length os ≤ 1000) (sym moved.1) (omega arith)))
few_turn turns k _ t _ c (Ends {u} {used} {v} g f) = set_few k.threads t (state_of (Returned v) (suc used)) c.1 tt
few_turn turns k _ t _ c (Raises {u} {used} {r} g f) = set_few k.threads t (state_of (end_by r) (suc used)) c.1 (by r)
  where
    by : (r : Raised) → FewExecution (end_by r)
    by (Exn e) = tt
    by ExitUp = tt

few_opening : (site : ℕ) (bs : List BlockTree) → AreFewThreads (new_threads (opening_terms site bs))
few_opening site [] = tt
few_opening site (b ∷ bs) = (subst (λ n. n ≤ 1000) (sym (source_none (block_term site [] b) (source_block site [] b))) (omega arith), few_opening (suc site) bs)

formed_turn : (turns : ℕ) (k k2 : Config) (t : ℕ) (a : Option Act) → IsFormedConfig k → Turn turns k t a k2 → IsFormedConfig k2
formed_turn turns k k2 t a c x = subst IsFormedIf (turn_taken turns k k2 t a x) (entry_formed turns k (alone t a) c)

pub activations_law : ActivationsLaw
activations_law trees turns es k t used u r here =
    let well : IsFewWell k = kept_by_replay turns IsFewWell (λ k1 k2 v a p x. (formed_turn turns k1 k2 v a p.0 x, few_turn turns k1 k2 v a p x)) trees (opening_of_formed trees, few_opening 0 trees) es k r in
    subst FewState here (few_state k.threads t well.1)
