-- Every configuration that a journal of a program replays to is known: its locations name cells of their kinds, its thread numbers threads.
use Rattle.std.specs.Prelude.{Bool, List, None, Option, Some, [], bytes_eq, codes, false, if◌then◌else◌, length, nat_le, not, refl, replicate, slice_get, slice_set, suc, true, zero, ℕ, ◌&&◌, ◌++◌, ◌+◌, ◌<◌, ◌==◌, ◌∷◌, ◌≡◌, ◌≤◌}
use Rattle.std.proofs.Common.{subst, ap, sym, ◌∙◌, arith}
use Rattle.std.proofs.lemmas.Bool.{eqb-true, eqb-false}
use Rattle.obq_base.specs.declared.limits.TheConstants.{THREAD_LIMIT}
use Rattle.obq_base.specs.declared.acts.Act.{Act}
use Rattle.obq_base.specs.declared.acts.ActKind.{ActKind}
use Rattle.obq_base.specs.declared.trees.Operator.{Operator}
use Rattle.obq_base.specs.Tree.{BlockTree, BlockOf, MaybeBlock, NoBlock, ABlock, ItemTrees, NoItems, AnItem, ItemTree, LetItem, VarItem, LetRecItem, AssignItem, FieldItem, IndexItem, PlainItem, BindTrees, NoBinds, ABind, RecBindTrees, NoRecBinds, ARecBind, ProcedureTree, AProc, FieldTree, ValueOf, MethodOf, AliasOf, ExprTree, IntTree, TextTree, TruthTree, OkTree, NameTree, ProcTree, ArrayTree, ObjectTree, IfTree, LoopTree, ExitTree, ForTree, ForeachTree, TryTree, FinallyTree, RaiseTree, WatchTree, RedirectTree, CloneTree, ChainTree, SuffixedTree, ExprTrees, NoExprs, AnExpr, LinkTrees, NoLinks, ALink, SuffixTree, ApplySuffix, SelectSuffix, InvokeSuffix, IndexSuffix, SuffixTrees, NoSuffixes, ASuffix, ArmTrees, NoArms, AnArm, FieldTrees, NoFields, AField}
use Rattle.obq_model.specs.Terms.{Bytes, LocKind, Object, Array, Variable, Writer, Condition, Raised, Exn, ExitUp, Builtin, Value, Int, Text, Exc, Thread, Closure, Member, Loc, FieldBody, IsValue, IsMethod, IsAlias, Fields, Bare, Field, Kind, Raising, Choosing, Unmet, Counting, Let, Var, MakeObject, Call, Apply, Read, Within, EachAt, EachIn, Cloning, Testing, Lined, Out, Term, Const, Name, Under, Form, Parts, End, Part}
use Rattle.obq_model.specs.Put.{among}
use Rattle.obq_model.specs.Store.{Cell, ObjectCell, ArrayCell, VariableCell, WriterCell, ConditionCell, EngineCell, Store, same_loc}
use Rattle.obq_model.specs.Step.{Self, no_self, Operation, New, ForkOff, plug, Found, Next, Needs, Done, Uncaught, find, next_of, self_at}
use Rattle.obq_model.specs.Opening.{called_builtin, name_term, linked, group_names, block_term, maybe_term, maybe_parts, items_term, binds_term, group_parts, procedure_term, item_term, field_item, expr_term, expr_parts, chain_term, suffixes_term, suffix_term, if_term, arm_parts, field_parts, method_parts, opening_terms, new_threads, opening}
use Rattle.obq_model.specs.Config.{Execution, Running, Returned, Failed, ThreadState, Config, with_new_cell}
use Rattle.obq_model.specs.Effect.{Acting, Forking, perform, end_by}
use Rattle.obq_model.specs.Exceptions.{fork_limit}
use Rattle.obq_model.specs.OneCell.{SameKind}
use Rattle.obq_model.proofs.Slices.{get_below, set_same, set_other, set_length, push_same, push_other, push_length}
use Rattle.obq_model.specs.Leaves.{AreBounded, IsBoundedLeaf, ArmsLeaves, BindsLeaves, BlockLeaves, ExprLeaves, ExprsLeaves, FieldLeaves, FieldsLeaves, ItemLeaves, ItemsLeaves, LinksLeaves, MaybeLeaves, MembersLeaves, ProcedureLeaves, SuffixLeaves, SuffixesLeaves}
use Rattle.obq_laws.proofs.Raises.{exit_short}
use Rattle.obq_laws.specs.Known.{IsRaised, Places, Threads, AllObjects, IsKnown, AreKnown, IsKnownValue, IsKnownKind, AreKnownFields, IsKnownBody, AllKnown, IsKnownCell, IsKnownFound, location_kind, HasKind, IsPlace, Counted, AreKnownCells, AreKnownNames, IsKnownStore, IsKnownExecution, AreKnownThreads, IsKnownConfig, ReferencesLaw, NextIsKnown}
use Rattle.obq_laws.specs.Literals.{HasAtMost, AreNarrow, ArmsLiterals, BindsLiterals, BlockLiterals, ExprLiterals, ExprsLiterals, FieldLiterals, FieldsLiterals, ItemLiterals, ItemsLiterals, LinksLiterals, MaybeLiterals, MembersLiterals, ProcedureLiterals, SuffixLiterals, SuffixesLiterals}
use Rattle.obq_laws.specs.Locality.{IsLocalStore, SameStore, OneCell, OneName, OneMore}
use Rattle.obq_laws.specs.Turns.{state_of, changed, CanGo, Turn, Steps, Acts, Forks, Ends, Raises}
use Rattle.obq_laws.proofs.Changes.{LocalOutcome, local_perform}
use Rattle.obq_laws.proofs.KnownStep.{known_if, known_find, known_plug}
use Rattle.obq_laws.proofs.KnownActs.{KnownOutcome, MakesKnown, IsKnownState, thread_known, known_perform}
use Rattle.obq_laws.proofs.Turns.{kept_by_replay}

-- ---- with more locations and threads

-- there are more threads, and integers, texts and object literals are bounded alike
abbrev Later : Threads → Threads → Type 0
Later T T2 = ((n : ℕ) → T.numbers n → T2.numbers n) × (T2.bounded → T.bounded) × ((n : ℕ) → T2.narrow n → T.narrow n)

later_raised : (T T2 : Threads) → Later T T2 → (r : Raised) → IsRaised T r → IsRaised T2 r
later_raised T T2 t (Exn x) h = λ b. h (t.1 b)
later_raised T T2 t ExitUp h = tt

later_objects : {R : Type 0} (L : Places R) (T : Threads) (L2 : Places R) (T2 : Threads) → ((kind : LocKind) (r : R) → L kind r → L2 kind r) → Later T T2 → (os : List R) → AllObjects L os → AllObjects L2 os
later_objects L T L2 T2 l t [] h = tt
later_objects L T L2 T2 l t (o ∷ os) h = (l Object o h.0, later_objects L T L2 T2 l t os h.1)

mutual
  later_term : {R : Type 0} (L : Places R) (T : Threads) (L2 : Places R) (T2 : Threads) → ((kind : LocKind) (r : R) → L kind r → L2 kind r) → Later T T2 → (u : Term R) → IsKnown L T u → IsKnown L2 T2 u
  later_term L T L2 T2 l t (Const v) h = later_value L T L2 T2 l t v h
  later_term L T L2 T2 l t (Name x) h = tt
  later_term L T L2 T2 l t (Under names u) h = later_term L T L2 T2 l t u h
  later_term L T L2 T2 l t (Form k parts) h = (later_kind L T L2 T2 l t k h.0, later_parts L T L2 T2 l t parts h.1)

  later_parts : {R : Type 0} (L : Places R) (T : Threads) (L2 : Places R) (T2 : Threads) → ((kind : LocKind) (r : R) → L kind r → L2 kind r) → Later T T2 → (parts : Parts R) → AreKnown L T parts → AreKnown L2 T2 parts
  later_parts L T L2 T2 l t End h = tt
  later_parts L T L2 T2 l t (Part u parts) h = (later_term L T L2 T2 l t u h.0, later_parts L T L2 T2 l t parts h.1)

  later_value : {R : Type 0} (L : Places R) (T : Threads) (L2 : Places R) (T2 : Threads) → ((kind : LocKind) (r : R) → L kind r → L2 kind r) → Later T T2 → (v : Value R) → IsKnownValue L T v → IsKnownValue L2 T2 v
  later_value L T L2 T2 l t (Int z) h = λ b. h (t.1 b)
  later_value L T L2 T2 l t (Text x) h = λ b. h (t.1 b)
  later_value L T L2 T2 l t (Exc x) h = λ b. h (t.1 b)
  later_value L T L2 T2 l t (Thread n) h = t.0 n h
  later_value L T L2 T2 l t (Closure params body) h = (h.0, later_term L T L2 T2 l t body h.1)
  later_value L T L2 T2 l t (Member names group i) h = (h.0, h.1, later_parts L T L2 T2 l t group h.2)
  later_value L T L2 T2 l t (Loc kind r) h = l kind r h
  later_value L T L2 T2 l t v h = tt

  later_kind : {R : Type 0} (L : Places R) (T : Threads) (L2 : Places R) (T2 : Threads) → ((kind : LocKind) (r : R) → L kind r → L2 kind r) → Later T T2 → (k : Kind R) → IsKnownKind L T k → IsKnownKind L2 T2 k
  later_kind L T L2 T2 l t (MakeObject flags shape) h = λ n b. h n (t.2 n b)
  later_kind L T L2 T2 l t (Read q) h = l Variable q h
  later_kind L T L2 T2 l t (Within o m) h = l Object o h
  later_kind L T L2 T2 l t (Counting i n) h = (λ b. h.0 (t.1 b), λ b. h.1 (t.1 b))
  later_kind L T L2 T2 l t (EachAt r i n) h = l Array r h
  later_kind L T L2 T2 l t (EachIn r i n) h = l Array r h
  later_kind L T L2 T2 l t (Raising r) h = later_raised T T2 t r h
  later_kind L T L2 T2 l t (Choosing x) h = λ b. h (t.1 b)
  later_kind L T L2 T2 l t (Unmet x) h = λ b. h (t.1 b)
  later_kind L T L2 T2 l t (Cloning flags fields rest) h = (later_fields L T L2 T2 l t fields h.0, later_objects L T L2 T2 l t rest h.1)
  later_kind L T L2 T2 l t (Testing o c) h = (l Object o h.0, l Condition c h.1)
  later_kind L T L2 T2 l t (Lined o c) h = (l Object o h.0, l Condition c h.1)
  later_kind L T L2 T2 l t (Out o c) h = (l Object o h.0, l Condition c h.1)
  later_kind L T L2 T2 l t k h = tt

  later_fields : {R : Type 0} (L : Places R) (T : Threads) (L2 : Places R) (T2 : Threads) → ((kind : LocKind) (r : R) → L kind r → L2 kind r) → Later T T2 → (fs : Fields R) → AreKnownFields L T fs → AreKnownFields L2 T2 fs
  later_fields L T L2 T2 l t Bare h = tt
  later_fields L T L2 T2 l t (Field x body fs) h = (later_body L T L2 T2 l t body h.0, later_fields L T L2 T2 l t fs h.1)

  later_body : {R : Type 0} (L : Places R) (T : Threads) (L2 : Places R) (T2 : Threads) → ((kind : LocKind) (r : R) → L kind r → L2 kind r) → Later T T2 → (b : FieldBody R) → IsKnownBody L T b → IsKnownBody L2 T2 b
  later_body L T L2 T2 l t (IsValue v) h = later_value L T L2 T2 l t v h
  later_body L T L2 T2 l t (IsMethod params body) h = (h.0, later_term L T L2 T2 l t body h.1)
  later_body L T L2 T2 l t (IsAlias o x) h = l Object o h

later_values : {R : Type 0} (L : Places R) (T : Threads) (L2 : Places R) (T2 : Threads) → ((kind : LocKind) (r : R) → L kind r → L2 kind r) → Later T T2 → (vs : List (Value R)) → AllKnown L T vs → AllKnown L2 T2 vs
later_values L T L2 T2 l t [] h = tt
later_values L T L2 T2 l t (v ∷ vs) h = (later_value L T L2 T2 l t v h.0, later_values L T L2 T2 l t vs h.1)

later_cell : {R : Type 0} (L : Places R) (T : Threads) (L2 : Places R) (T2 : Threads) → ((kind : LocKind) (r : R) → L kind r → L2 kind r) → Later T T2 → (c : Cell R) → IsKnownCell L T c → IsKnownCell L2 T2 c
later_cell L T L2 T2 l t (ObjectCell flags owner fields) h = later_fields L T L2 T2 l t fields h
later_cell L T L2 T2 l t (ArrayCell vs) h = (h.0, later_values L T L2 T2 l t vs h.1)
later_cell L T L2 T2 l t (VariableCell v) h = later_value L T L2 T2 l t v h
later_cell L T L2 T2 l t (EngineCell v) h = later_value L T L2 T2 l t v h
later_cell L T L2 T2 l t (WriterCell x) h = tt
later_cell L T L2 T2 l t (ConditionCell x) h = tt

later_cells : (L : Places ℕ) (T : Threads) (L2 : Places ℕ) (T2 : Threads) → ((kind : LocKind) (r : ℕ) → L kind r → L2 kind r) → Later T T2 → (cs : List (Cell ℕ)) → AreKnownCells L T cs → AreKnownCells L2 T2 cs
later_cells L T L2 T2 l t [] h = tt
later_cells L T L2 T2 l t (c ∷ cs) h = (later_cell L T L2 T2 l t c h.0, later_cells L T L2 T2 l t cs h.1)

later_names : (L : Places ℕ) (T : Threads) (L2 : Places ℕ) (T2 : Threads) → ((kind : LocKind) (r : ℕ) → L kind r → L2 kind r) → Later T T2 → (ns : List (Bytes × Value ℕ)) → AreKnownNames L T ns → AreKnownNames L2 T2 ns
later_names L T L2 T2 l t [] h = tt
later_names L T L2 T2 l t (n ∷ ns) h = ((λ b. h.0.0 (t.1 b), later_value L T L2 T2 l t n.1 h.0.1), later_names L T L2 T2 l t ns h.1)

later_store : (L : Places ℕ) (T : Threads) (L2 : Places ℕ) (T2 : Threads) → ((kind : LocKind) (r : ℕ) → L kind r → L2 kind r) → Later T T2 → (st : Store ℕ) → IsKnownStore L T st → IsKnownStore L2 T2 st
later_store L T L2 T2 l t st h = (later_cells L T L2 T2 l t st.cells h.0, later_names L T L2 T2 l t st.names h.1)

later_execution : (L : Places ℕ) (T : Threads) (L2 : Places ℕ) (T2 : Threads) → ((kind : LocKind) (r : ℕ) → L kind r → L2 kind r) → Later T T2 → (x : Execution) → IsKnownExecution L T x → IsKnownExecution L2 T2 x
later_execution L T L2 T2 l t (Running u) h = later_term L T L2 T2 l t u h
later_execution L T L2 T2 l t (Returned v) h = later_value L T L2 T2 l t v h
later_execution L T L2 T2 l t (Failed e) h = λ b. h (t.1 b)

later_threads : (L : Places ℕ) (T : Threads) (L2 : Places ℕ) (T2 : Threads) → ((kind : LocKind) (r : ℕ) → L kind r → L2 kind r) → Later T T2 → (ts : List ThreadState) → AreKnownThreads L T ts → AreKnownThreads L2 T2 ts
later_threads L T L2 T2 l t [] h = tt
later_threads L T L2 T2 l t (s ∷ ss) h = (later_execution L T L2 T2 l t s.execution h.0, later_threads L T L2 T2 l t ss h.1)

-- ---- cells keep their kinds, and threads stay

same_kind_of : (c d : Cell ℕ) → SameKind (Some c) (Some d) → location_kind d ≡ location_kind c
same_kind_of (ObjectCell a b e) (ObjectCell x y z) h = refl
same_kind_of (ArrayCell a) (ArrayCell x) h = refl
same_kind_of (VariableCell a) (VariableCell x) h = refl
same_kind_of (WriterCell a) (WriterCell x) h = refl
same_kind_of (ConditionCell a) (ConditionCell x) h = refl
same_kind_of (EngineCell a) (EngineCell x) h = refl
same_kind_of _ _ h = absurd h

place_there : (kind : LocKind) (o : Option (Cell ℕ)) → HasKind kind o → (c : Cell ℕ) × (o ≡ Some c)
place_there kind None h = absurd h
place_there kind (Some c) h = (c, refl)

place_later : (st st2 : Store ℕ) → IsLocalStore st st2 → (kind : LocKind) (r : ℕ) → IsPlace st kind r → IsPlace st2 kind r
place_later st _ SameStore kind r h = h
place_later st _ (OneCell l c d e same) kind r h = by (r == l) refl
  where
    by : (b : Bool) → (r == l) ≡ b → HasKind kind (slice_get (slice_set st.cells l d) r)
    by true q =
        let there : slice_get (slice_set st.cells l d) r ≡ Some d = ap (slice_get (slice_set st.cells l d)) (eqb-true r l q) ∙ set_same st.cells l d (get_below st.cells l c e) in
        let old : HasKind kind (Some c) = subst (HasKind kind) (ap (slice_get st.cells) (eqb-true r l q) ∙ e) h in
        subst (HasKind kind) (sym there) (same_kind_of c d same ∙ old)
    by false q = subst (HasKind kind) (sym (set_other st.cells l d r (eqb-false r l q))) h
place_later st _ (OneName x v) kind r h = h
place_later st _ (OneMore c) kind r h =
    let there = place_there kind (slice_get st.cells r) h in
    subst (HasKind kind) (sym (push_other st.cells c r (below (get_below st.cells r there.0 there.1)))) h
  where
    below : r < length st.cells → r ≡ length st.cells → ⊥
    below l e = absurd (omega arith)

set_known : (L : Places ℕ) (T : Threads) (ts : List ThreadState) (t : ℕ) (s : ThreadState) → AreKnownThreads L T ts → IsKnownExecution L T s.execution → AreKnownThreads L T (slice_set ts t s)
set_known L T [] t s h i = tt
set_known L T (x ∷ xs) zero s h i = (i, h.1)
set_known L T (x ∷ xs) (suc t) s h i = (h.0, set_known L T xs t s h.1 i)

add_known : (L : Places ℕ) (T : Threads) (ts : List ThreadState) (s : ThreadState) → AreKnownThreads L T ts → IsKnownExecution L T s.execution → AreKnownThreads L T (ts ++ s ∷ [])
add_known L T [] s h i = (i, tt)
add_known L T (x ∷ xs) s h i = (h.0, add_known L T xs s h.1 i)

-- ---- turns

-- a thread that is changed stays one
keeps : (trees : List BlockTree) (k : Config) (t : ℕ) (s : ThreadState) → Later (Counted trees k.threads) (Counted trees (slice_set k.threads t s))
keeps trees k t s = (λ m h. subst (λ i. m < i) (sym (set_length k.threads t s)) h, λ b. b, λ m b. b)

-- thread t goes on so, with this store
goes_on : (trees : List BlockTree) (k : Config) (t : ℕ) (l : Execution) (n : ℕ) (st : Store ℕ) → IsKnownConfig trees k → IsLocalStore k.store st → IsKnownStore (IsPlace st) (Counted trees (slice_set k.threads t (state_of l n))) st
    → IsKnownExecution (IsPlace st) (Counted trees (slice_set k.threads t (state_of l n))) l → IsKnownConfig trees (changed k t l n st)
goes_on trees k t l n st c local s x =
    let threads : List ThreadState = slice_set k.threads t (state_of l n) in (
      s,
      set_known (IsPlace st) (Counted trees threads) k.threads t (state_of l n)
          (later_threads (IsPlace k.store) (Counted trees k.threads) (IsPlace st) (Counted trees threads) (place_later k.store st local) (keeps trees k t (state_of l n)) k.threads c.1) x,
    )

pub next_known : (L : Places ℕ) (T : Threads) (x : Found ℕ) (v : Term ℕ) → IsKnownFound L T x → next_of x ≡ Some v → IsKnown L T v
next_known L T (Next u) v h e = let same : u ≡ v = cc e in subst (IsKnown L T) same h
next_known L T (Needs op fs) v h e = absurd (cc e)
next_known L T (Done w) v h e = absurd (cc e)
next_known L T (Uncaught r) v h e = absurd (cc e)

-- what stands next in thread t, where there are these locations and threads
known_next : (trees : List BlockTree) (L2 : Places ℕ) (T2 : Threads) (turns : ℕ) (k : Config) (t : ℕ) (u : Term ℕ) (used : ℕ) → IsKnownConfig trees k → ((kind : LocKind) (r : ℕ) → IsPlace k.store kind r → L2 kind r) → Later (Counted trees k.threads) T2 → CanGo turns k t u used
    → IsKnownFound L2 T2 (find same_loc 0 no_self u)
known_next trees L2 T2 turns k t u used c l m g =
    let h : IsKnown (IsPlace k.store) (Counted trees k.threads) u = subst (IsKnownState (IsPlace k.store) (Counted trees k.threads)) g.is_there (thread_known (IsPlace k.store) (Counted trees k.threads) k.threads t c.1) in
    known_find L2 T2 same_loc 0 no_self u tt (later_term (IsPlace k.store) (Counted trees k.threads) L2 T2 l m u h)

makes_acts : (k : Config) (t : ℕ) (s : Self ℕ) (op : Operation ℕ) (kind : ActKind) (loc : ℕ) (st : Store ℕ) (focus : Term ℕ) (T2 : Threads) → perform k t s op ≡ Acting kind loc st focus → MakesKnown (IsPlace st) T2 k op
makes_acts k t s (New cell after) kind loc st focus T2 p =
    let same : with_new_cell k.store cell ≡ st = cc p in
    subst (λ (x : Store ℕ). IsPlace x (location_kind cell) (length k.store.cells)) same (subst (HasKind (location_kind cell)) (sym (push_same k.store.cells cell)) refl)
makes_acts k t s (ForkOff f) kind loc st focus T2 p = λ n. absurd (by (nat_le THREAD_LIMIT (length k.threads)) n p)
  where
    by : (b : Bool) → b ≡ false → (if b then Acting ActKind.Fork THREAD_LIMIT k.store fork_limit else Forking (length k.threads) (Form Call (Part (Const f) End)) (Const (Thread (length k.threads)))) ≡ Acting kind loc st focus → ⊥
    by true e q = absurd (cc e)
    by false e q = absurd (cc q)
makes_acts k t s op kind loc st focus T2 p = tt

makes_forks : (k : Config) (t : ℕ) (s : Self ℕ) (op : Operation ℕ) (loc : ℕ) (new focus : Term ℕ) (L2 : Places ℕ) (T2 : Threads) → T2.numbers (length k.threads) → perform k t s op ≡ Forking loc new focus → MakesKnown L2 T2 k op
makes_forks k t s (New cell after) loc new focus L2 T2 m p = absurd (cc p)
makes_forks k t s (ForkOff f) loc new focus L2 T2 m p = λ n. m
makes_forks k t s op loc new focus L2 T2 m p = tt

ended_known : (L : Places ℕ) (T : Threads) (r : Raised) → IsRaised T r → IsKnownExecution L T (end_by r)
ended_known L T (Exn e) h = h
ended_known L T ExitUp h = exit_short T

pub known_turn : (trees : List BlockTree) (turns : ℕ) (k k2 : Config) (t : ℕ) (a : Option Act) → IsKnownConfig trees k → Turn turns k t a k2 → IsKnownConfig trees k2
known_turn trees turns k _ t _ c (Steps {u} {used} {v} g e) =
    let T2 : Threads = Counted trees (slice_set k.threads t (state_of (Running v) (suc used))) in
    let more : Later (Counted trees k.threads) T2 = keeps trees k t (state_of (Running v) (suc used)) in
    goes_on trees k t (Running v) (suc used) k.store c SameStore (later_store (IsPlace k.store) (Counted trees k.threads) (IsPlace k.store) T2 (λ kind r h. h) more k.store c.0)
    (next_known (IsPlace k.store) T2 (find same_loc 0 no_self u) v (known_next trees (IsPlace k.store) T2 turns k t u used c (λ kind r h. h) more g) e)
known_turn trees turns k _ t _ c (Acts {u} {used} {op} {fs} {kind} {loc} {st} {focus} g f p) =
    let local : IsLocalStore k.store st = subst (LocalOutcome k.store) p (local_perform k t (self_at no_self fs) op) in
    let L2 : Places ℕ = IsPlace st in
    let T2 : Threads = Counted trees (slice_set k.threads t (state_of (Running (plug fs focus)) (suc used))) in
    let more : Later (Counted trees k.threads) T2 = keeps trees k t (state_of (Running (plug fs focus)) (suc used)) in
    let next : IsKnownFound L2 T2 (Needs op fs) = subst (IsKnownFound L2 T2) f (known_next trees L2 T2 turns k t u used c (place_later k.store st local) more g) in
    let store : IsKnownStore L2 T2 k.store = later_store (IsPlace k.store) (Counted trees k.threads) L2 T2 (place_later k.store st local) more k.store c.0 in
    let threads : AreKnownThreads L2 T2 k.threads = later_threads (IsPlace k.store) (Counted trees k.threads) L2 T2 (place_later k.store st local) more k.threads c.1 in
    let out : KnownOutcome L2 T2 (Acting kind loc st focus) = subst (KnownOutcome L2 T2) p (known_perform L2 T2 k t (self_at no_self fs) op store threads next.0 (makes_acts k t (self_at no_self fs) op kind loc st focus T2 p)) in
    goes_on trees k t (Running (plug fs focus)) (suc used) st c local out.0 (known_plug L2 T2 fs focus next.1 out.1)
known_turn trees turns k _ t _ c (Forks {u} {used} {op} {fs} {loc} {new} {focus} g f p) =
    let ts : List ThreadState = slice_set k.threads t (state_of (Running (plug fs focus)) (suc used)) in
    let last : ThreadState = state_of (Running new) 0 in
    let L2 : Places ℕ = IsPlace k.store in
    let T2 : Threads = Counted trees (ts ++ last ∷ []) in
    let long : length (ts ++ last ∷ []) ≡ suc (length k.threads) = push_length ts last ∙ ap suc (set_length k.threads t (state_of (Running (plug fs focus)) (suc used))) in
    let more : Later (Counted trees k.threads) T2 = (λ n h. subst (λ i. n < i) (sym long) (wider n (length k.threads) h), λ b. b, λ m b. b) in
    let next : IsKnownFound L2 T2 (Needs op fs) = subst (IsKnownFound L2 T2) f (known_next trees L2 T2 turns k t u used c (λ kind r h. h) more g) in
    let store : IsKnownStore L2 T2 k.store = later_store (IsPlace k.store) (Counted trees k.threads) L2 T2 (λ kind r h. h) more k.store c.0 in
    let threads : AreKnownThreads L2 T2 k.threads = later_threads (IsPlace k.store) (Counted trees k.threads) L2 T2 (λ kind r h. h) more k.threads c.1 in
    let there : T2.numbers (length k.threads) = subst (λ i. length k.threads < i) (sym long) (one_above (length k.threads)) in
    let out : KnownOutcome L2 T2 (Forking loc new focus) = subst (KnownOutcome L2 T2) p (known_perform L2 T2 k t (self_at no_self fs) op store threads next.0 (makes_forks k t (self_at no_self fs) op loc new focus L2 T2 there p)) in
    (store, add_known L2 T2 ts last (set_known L2 T2 k.threads t (state_of (Running (plug fs focus)) (suc used)) threads (known_plug L2 T2 fs focus next.1 out.1)) out.0)
  where
    wider : (n m : ℕ) → n < m → n < suc m
    wider n m l = omega arith

    one_above : (n : ℕ) → n < suc n
    one_above n = omega arith
known_turn trees turns k _ t _ c (Ends {u} {used} {v} g f) =
    let T2 : Threads = Counted trees (slice_set k.threads t (state_of (Returned v) (suc used))) in
    let more : Later (Counted trees k.threads) T2 = keeps trees k t (state_of (Returned v) (suc used)) in
    goes_on trees k t (Returned v) (suc used) k.store c SameStore (later_store (IsPlace k.store) (Counted trees k.threads) (IsPlace k.store) T2 (λ kind r h. h) more k.store c.0)
    (subst (IsKnownFound (IsPlace k.store) T2) f (known_next trees (IsPlace k.store) T2 turns k t u used c (λ kind r h. h) more g))
known_turn trees turns k _ t _ c (Raises {u} {used} {r} g f) =
    let T2 : Threads = Counted trees (slice_set k.threads t (state_of (end_by r) (suc used))) in
    let more : Later (Counted trees k.threads) T2 = keeps trees k t (state_of (end_by r) (suc used)) in
    goes_on trees k t (end_by r) (suc used) k.store c SameStore (later_store (IsPlace k.store) (Counted trees k.threads) (IsPlace k.store) T2 (λ kind q h. h) more k.store c.0)
    (ended_known (IsPlace k.store) T2 r (subst (IsKnownFound (IsPlace k.store) T2) f (known_next trees (IsPlace k.store) T2 turns k t u used c (λ kind q h. h) more g)))

-- ---- the opening

opens_name : (L : Places ℕ) (T : Threads) → (site : ℕ) → L Writer site → (bound : List Bytes) (x : Bytes) → IsKnown L T (name_term site bound x)
opens_name L T site w bound x = known_if L T (not (among x bound) && bytes_eq x (codes "stdout")) (Const (Loc Writer site)) (Name x) w tt

opens_linked : (L : Places ℕ) (T : Threads) → (op : Operator) (t u : Term ℕ) → IsKnown L T t → IsKnown L T u → IsKnown L T (linked op t u)
opens_linked L T Operator.Orif t u h k = (tt, (h, (k, tt)))
opens_linked L T Operator.Andif t u h k = (tt, (h, (k, tt)))
opens_linked L T _ t u h k = (tt, (h, (k, tt)))

mutual
  pub opens_block : (L : Places ℕ) (T : Threads) → (site : ℕ) → L Writer site → (bound : List Bytes) (b : BlockTree) → (T.bounded → BlockLeaves IsBoundedLeaf b) → ((n : ℕ) → T.narrow n → BlockLiterals (HasAtMost n) b) → IsKnown L T (block_term site bound b)
  opens_block L T site w bound (BlockOf NoItems place) z most = (tt, tt)
  opens_block L T site w bound (BlockOf (AnItem i items) place) z most = opens_items L T site w bound (AnItem i items) z most

  pub opens_maybe : (L : Places ℕ) (T : Threads) → (site : ℕ) → L Writer site → (bound : List Bytes) (b : MaybeBlock) → (T.bounded → MaybeLeaves IsBoundedLeaf b) → ((n : ℕ) → T.narrow n → MaybeLiterals (HasAtMost n) b) → IsKnown L T (maybe_term site bound b)
  opens_maybe L T site w bound NoBlock z most = tt
  opens_maybe L T site w bound (ABlock b) z most = opens_block L T site w bound b z most

  pub opens_maybe_parts : (L : Places ℕ) (T : Threads) → (site : ℕ) → L Writer site → (bound : List Bytes) (b : MaybeBlock) → (T.bounded → MaybeLeaves IsBoundedLeaf b) → ((n : ℕ) → T.narrow n → MaybeLiterals (HasAtMost n) b) → AreKnown L T (maybe_parts site bound b)
  opens_maybe_parts L T site w bound NoBlock z most = tt
  opens_maybe_parts L T site w bound (ABlock b) z most = (opens_block L T site w bound b z most, tt)

  pub opens_items : (L : Places ℕ) (T : Threads) → (site : ℕ) → L Writer site → (bound : List Bytes) (items : ItemTrees) → (T.bounded → ItemsLeaves IsBoundedLeaf items) → ((n : ℕ) → T.narrow n → ItemsLiterals (HasAtMost n) items) → IsKnown L T (items_term site bound items)
  opens_items L T site w bound NoItems z most = tt
  opens_items L T site w bound (AnItem (LetItem bs place) items) z most = opens_binds L T site w Let tt bound bs (λ names. items_term site names items) (λ names. opens_items L T site w names items (λ q. (z q).1) (λ n q. (most n q).1)) (λ q. (z q).0) (λ n q. (most n q).0)
  opens_items L T site w bound (AnItem (VarItem bs place) items) z most = opens_binds L T site w Var tt bound bs (λ names. items_term site names items) (λ names. opens_items L T site w names items (λ q. (z q).1) (λ n q. (most n q).1)) (λ q. (z q).0) (λ n q. (most n q).0)
  opens_items L T site w bound (AnItem (LetRecItem bs place) items) z most = (tt, ((tt, (opens_items L T site w (group_names bs ++ bound) items (λ q. (z q).1) (λ n q. (most n q).1), opens_group L T site w (group_names bs ++ bound) bs (λ q. (z q).0) (λ n q. (most n q).0))), tt))
  opens_items L T site w bound (AnItem i NoItems) z most = opens_item L T site w bound i (λ q. (z q).0) (λ n q. (most n q).0)
  opens_items L T site w bound (AnItem i (AnItem j items)) z most = (tt, (opens_item L T site w bound i (λ q. (z q).0) (λ n q. (most n q).0), (opens_items L T site w bound (AnItem j items) (λ q. (z q).1) (λ n q. (most n q).1), tt)))

  pub opens_binds : (L : Places ℕ) (T : Threads) → (site : ℕ) → L Writer site → (k : Kind ℕ) → IsKnownKind L T k → (bound : List Bytes) (bs : BindTrees) (rest : List Bytes → Term ℕ) → ((names : List Bytes) → IsKnown L T (rest names)) → (T.bounded → BindsLeaves IsBoundedLeaf bs) → ((n : ℕ) → T.narrow n → BindsLiterals (HasAtMost n) bs) → IsKnown L T (binds_term k site bound bs rest)
  opens_binds L T site w k h bound NoBinds rest r z most = r bound
  opens_binds L T site w k h bound (ABind x e place bs) rest r z most = (h, (opens_expr L T site w bound e (λ q. (z q).0) (λ n q. (most n q).0), (opens_binds L T site w k h (x ∷ bound) bs rest r (λ q. (z q).1) (λ n q. (most n q).1), tt)))

  pub opens_group : (L : Places ℕ) (T : Threads) → (site : ℕ) → L Writer site → (bound : List Bytes) (bs : RecBindTrees) → (T.bounded → MembersLeaves IsBoundedLeaf bs) → ((n : ℕ) → T.narrow n → MembersLiterals (HasAtMost n) bs) → AreKnown L T (group_parts site bound bs)
  opens_group L T site w bound NoRecBinds z most = tt
  opens_group L T site w bound (ARecBind x p place bs) z most = (opens_procedure L T site w bound p (λ q. (z q).0) (λ n q. (most n q).0), opens_group L T site w bound bs (λ q. (z q).1) (λ n q. (most n q).1))

  pub opens_procedure : (L : Places ℕ) (T : Threads) → (site : ℕ) → L Writer site → (bound : List Bytes) (p : ProcedureTree) → (T.bounded → ProcedureLeaves IsBoundedLeaf p) → ((n : ℕ) → T.narrow n → ProcedureLiterals (HasAtMost n) p) → IsKnown L T (procedure_term site bound p)
  opens_procedure L T site w bound (AProc params b place) z most = opens_block L T site w (params ++ bound) b z most

  pub opens_item : (L : Places ℕ) (T : Threads) → (site : ℕ) → L Writer site → (bound : List Bytes) (i : ItemTree) → (T.bounded → ItemLeaves IsBoundedLeaf i) → ((n : ℕ) → T.narrow n → ItemLiterals (HasAtMost n) i) → IsKnown L T (item_term site bound i)
  opens_item L T site w bound (AssignItem x e place) z most = (tt, (opens_expr L T site w bound e (λ q. (z q).1) most, (opens_name L T site w bound x, tt)))
  opens_item L T site w bound (FieldItem o x body place) z most = opens_field_item L T site w bound x (expr_term site bound o) (opens_expr L T site w bound o (λ q. (z q).0) (λ n q. (most n q).0)) body (λ q. (z q).1) (λ n q. (most n q).1)
  opens_item L T site w bound (IndexItem a i e place) z most = (tt, (opens_expr L T site w bound a (λ q. (z q).0) (λ n q. (most n q).0), (opens_expr L T site w bound i (λ q. (z q).1) (λ n q. (most n q).1), (opens_expr L T site w bound e (λ q. (z q).2) (λ n q. (most n q).2), tt))))
  opens_item L T site w bound (PlainItem e) z most = opens_expr L T site w bound e z most
  opens_item L T site w bound (LetItem bs place) z most = tt
  opens_item L T site w bound (VarItem bs place) z most = tt
  opens_item L T site w bound (LetRecItem bs place) z most = tt

  pub opens_field_item : (L : Places ℕ) (T : Threads) → (site : ℕ) → L Writer site → (bound : List Bytes) (x : Bytes) (o : Term ℕ) → IsKnown L T o → (body : FieldTree) → (T.bounded → FieldLeaves IsBoundedLeaf body) → ((n : ℕ) → T.narrow n → FieldLiterals (HasAtMost n) body) → IsKnown L T (field_item site bound x o body)
  opens_field_item L T site w bound x o h (ValueOf e) z most = (tt, (h, (opens_expr L T site w bound e z most, tt)))
  opens_field_item L T site w bound x o h (MethodOf p) z most = (tt, (h, (opens_procedure L T site w bound p z most, tt)))
  opens_field_item L T site w bound x o h (AliasOf y e place) z most = (tt, (h, (opens_expr L T site w bound e z most, tt)))

  pub opens_expr : (L : Places ℕ) (T : Threads) → (site : ℕ) → L Writer site → (bound : List Bytes) (e : ExprTree) → (T.bounded → ExprLeaves IsBoundedLeaf e) → ((n : ℕ) → T.narrow n → ExprLiterals (HasAtMost n) e) → IsKnown L T (expr_term site bound e)
  opens_expr L T site w bound (IntTree n place) z most = z
  opens_expr L T site w bound (TextTree t place) z most = z
  opens_expr L T site w bound (TruthTree b place) z most = tt
  opens_expr L T site w bound (OkTree place) z most = tt
  opens_expr L T site w bound (NameTree x place) z most = opens_name L T site w bound x
  opens_expr L T site w bound (ProcTree p) z most = (tt, (opens_procedure L T site w bound p z most, tt))
  opens_expr L T site w bound (ArrayTree es place) z most = (tt, opens_exprs L T site w bound es z most)
  opens_expr L T site w bound (ObjectTree flags fs place) z most = ((λ n q. (most n q).0), opens_field_parts L T site w bound fs (method_parts site bound fs) (opens_methods L T site w bound fs z (λ n q. (most n q).1)) z (λ n q. (most n q).1))
  opens_expr L T site w bound (IfTree arms last place) z most = opens_ifs L T site w bound arms (maybe_term site bound last) (opens_maybe L T site w bound last (λ q. (z q).1) (λ n q. (most n q).1)) (λ q. (z q).0) (λ n q. (most n q).0)
  opens_expr L T site w bound (LoopTree b place) z most = (tt, (opens_block L T site w bound b z most, tt))
  opens_expr L T site w bound (ExitTree place) z most = (tt, tt)
  opens_expr L T site w bound (ForTree x m n b place) z most = (tt, (opens_expr L T site w bound m (λ q. (z q).0) (λ n q. (most n q).0), (opens_expr L T site w bound n (λ q. (z q).1) (λ n q. (most n q).1), (opens_block L T site w (x ∷ bound) b (λ q. (z q).2) (λ n q. (most n q).2), tt))))
  opens_expr L T site w bound (ForeachTree x e b place) z most = (tt, (opens_expr L T site w bound e (λ q. (z q).0) (λ n q. (most n q).0), (opens_block L T site w (x ∷ bound) b (λ q. (z q).1) (λ n q. (most n q).1), tt)))
  opens_expr L T site w bound (TryTree b arms last place) z most = (tt, (opens_block L T site w bound b (λ q. (z q).0) (λ n q. (most n q).0), opens_arms L T site w bound arms (maybe_parts site bound last) (opens_maybe_parts L T site w bound last (λ q. (z q).2) (λ n q. (most n q).2)) (λ q. (z q).1) (λ n q. (most n q).1)))
  opens_expr L T site w bound (FinallyTree b last place) z most = (tt, (opens_block L T site w bound b (λ q. (z q).0) (λ n q. (most n q).0), (opens_block L T site w bound last (λ q. (z q).1) (λ n q. (most n q).1), tt)))
  opens_expr L T site w bound (RaiseTree e place) z most = (tt, (opens_expr L T site w bound e z most, tt))
  opens_expr L T site w bound (WatchTree c g place) z most = (tt, (opens_expr L T site w bound c (λ q. (z q).0) (λ n q. (most n q).0), (opens_expr L T site w bound g (λ q. (z q).1) (λ n q. (most n q).1), tt)))
  opens_expr L T site w bound (RedirectTree o p place) z most = (tt, (opens_expr L T site w bound o (λ q. (z q).0) (λ n q. (most n q).0), (opens_expr L T site w bound p (λ q. (z q).1) (λ n q. (most n q).1), tt)))
  opens_expr L T site w bound (CloneTree es place) z most = (tt, opens_exprs L T site w bound es z most)
  opens_expr L T site w bound (ChainTree e links) z most = opens_chain L T site w bound (expr_term site bound e) (opens_expr L T site w bound e (λ q. (z q).0) (λ n q. (most n q).0)) links (λ q. (z q).1) (λ n q. (most n q).1)
  opens_expr L T site w bound (SuffixedTree e ss) z most = opens_suffixes L T site w bound (called_builtin bound e) (expr_term site bound e) (opens_expr L T site w bound e (λ q. (z q).0) (λ n q. (most n q).0)) ss (λ q. (z q).1) (λ n q. (most n q).1)

  pub opens_exprs : (L : Places ℕ) (T : Threads) → (site : ℕ) → L Writer site → (bound : List Bytes) (es : ExprTrees) → (T.bounded → ExprsLeaves IsBoundedLeaf es) → ((n : ℕ) → T.narrow n → ExprsLiterals (HasAtMost n) es) → AreKnown L T (expr_parts site bound es)
  opens_exprs L T site w bound NoExprs z most = tt
  opens_exprs L T site w bound (AnExpr e es) z most = (opens_expr L T site w bound e (λ q. (z q).0) (λ n q. (most n q).0), opens_exprs L T site w bound es (λ q. (z q).1) (λ n q. (most n q).1))

  pub opens_chain : (L : Places ℕ) (T : Threads) → (site : ℕ) → L Writer site → (bound : List Bytes) (t : Term ℕ) → IsKnown L T t → (links : LinkTrees) → (T.bounded → LinksLeaves IsBoundedLeaf links) → ((n : ℕ) → T.narrow n → LinksLiterals (HasAtMost n) links) → IsKnown L T (chain_term site bound t links)
  opens_chain L T site w bound t h NoLinks z most = h
  opens_chain L T site w bound t h (ALink op e place links) z most = opens_chain L T site w bound (linked op t (expr_term site bound e)) (opens_linked L T op t (expr_term site bound e) h (opens_expr L T site w bound e (λ q. (z q).0) (λ n q. (most n q).0))) links (λ q. (z q).1) (λ n q. (most n q).1)

  pub opens_suffixes : (L : Places ℕ) (T : Threads) → (site : ℕ) → L Writer site → (bound : List Bytes) (b : Option Builtin) (t : Term ℕ) → IsKnown L T t → (ss : SuffixTrees) → (T.bounded → SuffixesLeaves IsBoundedLeaf ss) → ((n : ℕ) → T.narrow n → SuffixesLiterals (HasAtMost n) ss) → IsKnown L T (suffixes_term site bound b t ss)
  opens_suffixes L T site w bound b t h NoSuffixes z most = h
  opens_suffixes L T site w bound (Some b) t h (ASuffix (ApplySuffix es place) ss) z most = opens_suffixes L T site w bound None (Form (Apply b) (expr_parts site bound es)) (tt, opens_exprs L T site w bound es (λ q. (z q).0) (λ n q. (most n q).0)) ss (λ q. (z q).1) (λ n q. (most n q).1)
  opens_suffixes L T site w bound b t h (ASuffix s ss) z most = opens_suffixes L T site w bound None (suffix_term site bound t s) (opens_suffix L T site w bound t h s (λ q. (z q).0) (λ n q. (most n q).0)) ss (λ q. (z q).1) (λ n q. (most n q).1)

  pub opens_suffix : (L : Places ℕ) (T : Threads) → (site : ℕ) → L Writer site → (bound : List Bytes) (t : Term ℕ) → IsKnown L T t → (s : SuffixTree) → (T.bounded → SuffixLeaves IsBoundedLeaf s) → ((n : ℕ) → T.narrow n → SuffixLiterals (HasAtMost n) s) → IsKnown L T (suffix_term site bound t s)
  opens_suffix L T site w bound t h (ApplySuffix es place) z most = (tt, (h, opens_exprs L T site w bound es z most))
  opens_suffix L T site w bound t h (SelectSuffix x place) z most = (tt, (h, tt))
  opens_suffix L T site w bound t h (InvokeSuffix x es place) z most = (tt, (h, opens_exprs L T site w bound es z most))
  opens_suffix L T site w bound t h (IndexSuffix e place) z most = (tt, (h, (opens_expr L T site w bound e z most, tt)))

  pub opens_ifs : (L : Places ℕ) (T : Threads) → (site : ℕ) → L Writer site → (bound : List Bytes) (arms : ArmTrees) (otherwise : Term ℕ) → IsKnown L T otherwise → (T.bounded → ArmsLeaves IsBoundedLeaf arms) → ((n : ℕ) → T.narrow n → ArmsLiterals (HasAtMost n) arms) → IsKnown L T (if_term site bound arms otherwise)
  opens_ifs L T site w bound NoArms otherwise h z most = h
  opens_ifs L T site w bound (AnArm c b arms) otherwise h z most = (tt, (opens_expr L T site w bound c (λ q. (z q).0.0) (λ n q. (most n q).0.0), (opens_block L T site w bound b (λ q. (z q).0.1) (λ n q. (most n q).0.1), (opens_ifs L T site w bound arms otherwise h (λ q. (z q).1) (λ n q. (most n q).1), tt))))

  pub opens_arms : (L : Places ℕ) (T : Threads) → (site : ℕ) → L Writer site → (bound : List Bytes) (arms : ArmTrees) (last : Parts ℕ) → AreKnown L T last → (T.bounded → ArmsLeaves IsBoundedLeaf arms) → ((n : ℕ) → T.narrow n → ArmsLiterals (HasAtMost n) arms) → AreKnown L T (arm_parts site bound arms last)
  opens_arms L T site w bound NoArms last h z most = h
  opens_arms L T site w bound (AnArm guard b arms) last h z most = (opens_expr L T site w bound guard (λ q. (z q).0.0) (λ n q. (most n q).0.0), (opens_block L T site w bound b (λ q. (z q).0.1) (λ n q. (most n q).0.1), opens_arms L T site w bound arms last h (λ q. (z q).1) (λ n q. (most n q).1)))

  pub opens_field_parts : (L : Places ℕ) (T : Threads) → (site : ℕ) → L Writer site → (bound : List Bytes) (fs : FieldTrees) (methods : Parts ℕ) → AreKnown L T methods → (T.bounded → FieldsLeaves IsBoundedLeaf fs) → ((n : ℕ) → T.narrow n → FieldsLiterals (HasAtMost n) fs) → AreKnown L T (field_parts site bound fs methods)
  opens_field_parts L T site w bound NoFields methods h z most = h
  opens_field_parts L T site w bound (AField x (ValueOf e) place fs) methods h z most = (opens_expr L T site w bound e (λ q. (z q).0) (λ n q. (most n q).0), opens_field_parts L T site w bound fs methods h (λ q. (z q).1) (λ n q. (most n q).1))
  opens_field_parts L T site w bound (AField x (MethodOf p) place fs) methods h z most = opens_field_parts L T site w bound fs methods h (λ q. (z q).1) (λ n q. (most n q).1)
  opens_field_parts L T site w bound (AField x (AliasOf y e place2) place fs) methods h z most = (opens_expr L T site w bound e (λ q. (z q).0) (λ n q. (most n q).0), opens_field_parts L T site w bound fs methods h (λ q. (z q).1) (λ n q. (most n q).1))

  pub opens_methods : (L : Places ℕ) (T : Threads) → (site : ℕ) → L Writer site → (bound : List Bytes) (fs : FieldTrees) → (T.bounded → FieldsLeaves IsBoundedLeaf fs) → ((n : ℕ) → T.narrow n → FieldsLiterals (HasAtMost n) fs) → AreKnown L T (method_parts site bound fs)
  opens_methods L T site w bound NoFields z most = tt
  opens_methods L T site w bound (AField x (MethodOf p) place fs) z most = (opens_procedure L T site w bound p (λ q. (z q).0) (λ n q. (most n q).0), opens_methods L T site w bound fs (λ q. (z q).1) (λ n q. (most n q).1))
  opens_methods L T site w bound (AField x (ValueOf e) place fs) z most = opens_methods L T site w bound fs (λ q. (z q).1) (λ n q. (most n q).1)
  opens_methods L T site w bound (AField x (AliasOf y e place2) place fs) z most = opens_methods L T site w bound fs (λ q. (z q).1) (λ n q. (most n q).1)

-- the writer of a site
writer_there : (n site : ℕ) → site < n → HasKind {R = ℕ} Writer (slice_get (replicate n (WriterCell [])) site)
writer_there zero site l = absurd (omega arith)
writer_there (suc n) zero l = refl
writer_there (suc n) (suc site) l = writer_there n site (omega arith)

opens_threads : (L : Places ℕ) (T : Threads) (n : ℕ) → ((site : ℕ) → site < n → L Writer site) → (site : ℕ) (bs : List BlockTree) → (T.bounded → AreBounded bs) → ((m : ℕ) → T.narrow m → AreNarrow m bs) → site + length (opening_terms site bs) ≤ n → AreKnownThreads L T (new_threads (opening_terms site bs))
opens_threads L T n w site [] z most l = tt
opens_threads L T n w site (b ∷ bs) z most l =
    (opens_block L T site (w site (omega arith)) [] b (λ q. (z q).0) (λ m q. (most m q).0), opens_threads L T n w (suc site) bs (λ q. (z q).1) (λ m q. (most m q).1) (omega arith))

opens_writers : (L : Places ℕ) (T : Threads) (n : ℕ) → AreKnownCells L T (replicate n (WriterCell []))
opens_writers L T zero = tt
opens_writers L T (suc n) = (tt, opens_writers L T n)

pub known_opening : (trees : List BlockTree) → IsKnownConfig trees (opening trees)
known_opening trees =
    let L : Places ℕ = IsPlace (opening trees).store in
    let T : Threads = Counted trees (opening trees).threads in
    let n : ℕ = length (opening_terms 0 trees) in
    ((opens_writers L T n, tt), opens_threads L T n (writer_there n) 0 trees (λ b. b) (λ m b. b) (omega arith))

pub references_law : ReferencesLaw
references_law trees turns es k r = kept_by_replay turns (IsKnownConfig trees) (λ k1 k2 t a p x. known_turn trees turns k1 k2 t a p x) trees (known_opening trees) es k r

pub next_is_known : NextIsKnown
next_is_known trees turns es k t used u op fs r here found =
    let c : IsKnownConfig trees k = references_law trees turns es k r in
    let L : Places ℕ = IsPlace k.store in
    let T : Threads = Counted trees k.threads in
    let h : IsKnown L T u = subst (IsKnownState L T) here (thread_known L T k.threads t c.1) in
    let next : IsKnownFound L T (Needs op fs) = subst (IsKnownFound L T) found (known_find L T same_loc 0 no_self u tt h) in
    next.0
