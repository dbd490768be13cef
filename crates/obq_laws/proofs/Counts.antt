-- How many turns, threads and cells there are.
use Rattle.std.specs.Prelude.{Bool, List, None, Option, Some, [], false, if◌then◌else◌, length, max, nat_le, not, refl, replicate, slice_get, slice_set, suc, true, zero, ℕ, ◌++◌, ◌+◌, ◌<◌, ◌∷◌, ◌≡◌, ◌||◌, ◌≤◌}
use Rattle.std.proofs.Common.{inl, inr, subst, ap, sym, arith}
use Rattle.std.proofs.lemmas.Bool.Decides.{nat_tests}
use Rattle.obq_base.specs.declared.limits.TheConstants.{THREAD_LIMIT}
use Rattle.obq_base.specs.declared.acts.ActKind.{ActKind}
use Rattle.obq_base.specs.declared.acts.Act.{Act}
use Rattle.obq_base.specs.Tree.{BlockTree}
use Rattle.obq_model.specs.Terms.{Engine, Value, Thread, Loc, Call, Term, Const, Form, Part, End}
use Rattle.obq_model.specs.Exceptions.{raise, fork_limit}
use Rattle.obq_model.specs.Store.{Cell, WriterCell, Store, same_loc, exported}
use Rattle.obq_model.specs.Step.{Self, no_self, Operation, New, Get, CallMethod, Leave, Set, Copy, RedirectTo, GetItem, GetSize, EachSize, EachItem, SetItem, ReadVariable, SetVariable, Write, ForkOff, JoinWith, LineUp, GiveUp, Again, Signal, Broadcast, Export, Import, RunEngine, plug, self_at, testing}
use Rattle.obq_model.specs.Config.{Execution, Running, Returned, Failed, ThreadState, Config, cell_at}
use Rattle.obq_model.specs.Cells.{is_free, owned_cell}
use Rattle.obq_model.specs.Effect.{Outcome, Waiting, Acting, Forking, ends_at, on_cell, in_line, line_of, imported, joined, perform, end_by}
use Rattle.obq_model.specs.OneCell.{RowLeaves}
use Rattle.obq_model.specs.Opening.{new_threads, opening_terms, opening}
use Rattle.obq_model.proofs.Slices.{set_length, push_length}
use Rattle.obq_model.proofs.OneCell.{leaves_cell}
use Rattle.obq_laws.specs.Counts.{total_used, UsedAtMost, AreFew, CountsLaw}
use Rattle.obq_laws.specs.Locality.{IsLocalStore, SameStore, OneCell, OneName, OneMore}
use Rattle.obq_laws.specs.Turns.{state_of, Turn, Steps, Acts, Forks, Ends, Raises}
use Rattle.obq_laws.proofs.Changes.{LocalOutcome, local_perform}
use Rattle.obq_laws.proofs.Turns.{kept_by_replay}

-- ---- turns

one_turn : (ts : List ThreadState) (t used : ℕ) (l m : Execution) → slice_get ts t ≡ Some (state_of m used) → total_used (slice_set ts t (state_of l (suc used))) ≡ suc (total_used ts)
one_turn [] t used l m e = absurd (cc e)
one_turn (s ∷ ss) zero used l m e = let same : s ≡ state_of m used = cc e in omega (arith, ap (λ (x : ThreadState). x.used) same)
one_turn (s ∷ ss) (suc t) used l m e = let more : total_used (slice_set ss t (state_of l (suc used))) ≡ suc (total_used ss) = one_turn ss t used l m e in omega arith

turns_more : (ts : List ThreadState) (s : ThreadState) → s.used ≡ 0 → total_used (ts ++ s ∷ []) ≡ total_used ts
turns_more [] s e = omega arith
turns_more (x ∷ xs) s e = ap (λ n. x.used + n) (turns_more xs s e)

set_used : (turns : ℕ) (ts : List ThreadState) (t : ℕ) (s : ThreadState) → s.used ≤ turns → UsedAtMost turns ts → UsedAtMost turns (slice_set ts t s)
set_used turns [] t s l h = tt
set_used turns (x ∷ xs) zero s l h = (l, h.1)
set_used turns (x ∷ xs) (suc t) s l h = (h.0, set_used turns xs t s l h.1)

add_used : (turns : ℕ) (ts : List ThreadState) (s : ThreadState) → s.used ≤ turns → UsedAtMost turns ts → UsedAtMost turns (ts ++ s ∷ [])
add_used turns [] s l h = (l, tt)
add_used turns (x ∷ xs) s l h = (h.0, add_used turns xs s l h.1)

-- ---- cells

cells_more : (st st2 : Store ℕ) → IsLocalStore st st2 → length st2.cells ≤ suc (length st.cells)
cells_more st _ SameStore = omega arith
cells_more st _ (OneCell l c d e h) = let same : length (slice_set st.cells l d) ≡ length st.cells = set_length st.cells l d in omega arith
cells_more st _ (OneName x v) = omega arith
cells_more st _ (OneMore c) = let more : length (st.cells ++ c ∷ []) ≡ suc (length st.cells) = push_length st.cells c in omega arith

-- ---- threads

-- a thread begins only where fewer than 64 are there
abbrev FewFork : Config → Outcome → Type 0
FewFork k Waiting = Unit {0}
FewFork k (Acting kind loc st focus) = Unit {0}
FewFork k (Forking loc new focus) = length k.threads < 64

fork_if : (k : Config) (b : Bool) → nat_le THREAD_LIMIT (length k.threads) ≡ b → (x y : Outcome) → FewFork k x → (length k.threads < 64 → FewFork k y) → FewFork k (if b then x else y)
fork_if k true e x y h i = h
fork_if k false e x y h i = i (grind (arith, nat_tests))

no_fork_if : (k : Config) (b : Bool) (x y : Outcome) → FewFork k x → FewFork k y → FewFork k (if b then x else y)
no_fork_if k true x y h i = h
no_fork_if k false x y h i = i

fork_row : (k : Config) (l t : ℕ) (op : Operation ℕ) (x : Outcome) → RowLeaves (ends_at k.store l) Waiting t op (cell_at k.store l) x → FewFork k x
fork_row k l t op x (inl e) = subst (FewFork k) (sym e) tt
fork_row k l t op x (inr (kind, left, focus, h, e)) = subst (FewFork k) (sym e) tt

fork_on_cell : (k : Config) (t : ℕ) (s : Self ℕ) (op : Operation ℕ) (l : ℕ) → FewFork k (on_cell k t s op l)
fork_on_cell k t s op l = fork_row k l t op (on_cell k t s op l) (leaves_cell same_loc (ends_at k.store l) Waiting t s op (cell_at k.store l))

fork_joined : (k : Config) (st : Store ℕ) (u : ℕ) (o : Option ThreadState) → FewFork k (joined st u o)
fork_joined k st u None = tt
fork_joined k st u (Some state) = by state.execution
  where
    by : (l : Execution) → FewFork k (elim l [ Running v ↦ Waiting | Returned v ↦ Acting ActKind.Join u st (Const v) | Failed e ↦ Acting ActKind.Join u st (raise e) ])
    by (Running v) = tt
    by (Returned v) = tt
    by (Failed e) = tt

fork_imported : (k : Config) (st : Store ℕ) (engine : Bool) (v : Option (Value ℕ)) → FewFork k (imported st engine v)
fork_imported k st engine None = tt
fork_imported k st false (Some v) = tt
fork_imported k st true (Some (Loc Engine e)) = tt
fork_imported k st true (Some _) = tt

few_fork : (k : Config) (t : ℕ) (s : Self ℕ) (op : Operation ℕ) → FewFork k (perform k t s op)
few_fork k t s (ForkOff f) = fork_if k (nat_le THREAD_LIMIT (length k.threads)) refl (Acting ActKind.Fork THREAD_LIMIT k.store fork_limit) (Forking (length k.threads) (Form Call (Part (Const f) End)) (Const (Thread (length k.threads)))) tt (λ l. l)
few_fork k t s (New cell after) = tt
few_fork k t s (Get o x) = fork_on_cell k t s (Get o x) o
few_fork k t s (CallMethod o x vs) = fork_on_cell k t s (CallMethod o x vs) o
few_fork k t s (Leave o out) = tt
few_fork k t s (Set o x body) = fork_on_cell k t s (Set o x body) o
few_fork k t s (Copy o first copied rest) = fork_on_cell k t s (Copy o first copied rest) o
few_fork k t s (RedirectTo o target) = fork_on_cell k t s (RedirectTo o target) o
few_fork k t s (GetItem a i) = fork_on_cell k t s (GetItem a i) a
few_fork k t s (GetSize a) = tt
few_fork k t s (EachSize a scope) = tt
few_fork k t s (EachItem a i n scope) = fork_on_cell k t s (EachItem a i n scope) a
few_fork k t s (SetItem a i v) = fork_on_cell k t s (SetItem a i v) a
few_fork k t s (ReadVariable l) = tt
few_fork k t s (SetVariable l v) = fork_on_cell k t s (SetVariable l v) l
few_fork k t s (Write w x) = fork_on_cell k t s (Write w x) w
few_fork k t s (JoinWith u) = fork_joined k k.store u (slice_get k.threads u)
few_fork k t s (LineUp o c guard) = fork_on_cell k t s (LineUp o c guard) c
few_fork k t s (GiveUp o c guard) = tt
few_fork k t s (Again o c guard) = no_fork_if k (in_line t (line_of (cell_at k.store c)) || not (is_free (cell_at k.store o))) Waiting (ends_at k.store o ActKind.Again (owned_cell (Some t) (cell_at k.store o)) (testing o c guard)) tt tt
few_fork k t s (Signal c) = fork_on_cell k t s (Signal c) c
few_fork k t s (Broadcast c) = fork_on_cell k t s (Broadcast c) c
few_fork k t s (Export x v) = tt
few_fork k t s (Import x engine) = fork_imported k k.store engine (exported x k.store.names)
few_fork k t s (RunEngine e f) = tt

-- ---- each turn

one_later : (sites turns : ℕ) (k : Config) (t used : ℕ) (m l : Execution) (st : Store ℕ) → AreFew sites turns k → slice_get k.threads t ≡ Some (state_of m used) → used < turns → length st.cells ≤ suc (length k.store.cells)
    → AreFew sites turns (record { store = st; threads = slice_set k.threads t (state_of l (suc used)) })
one_later sites turns k t used m l st h here few cells =
    let more : total_used (slice_set k.threads t (state_of l (suc used))) ≡ suc (total_used k.threads) = one_turn k.threads t used l m here in
    let same : length (slice_set k.threads t (state_of l (suc used))) ≡ length k.threads = set_length k.threads t (state_of l (suc used)) in
    let old : length k.store.cells ≤ sites + total_used k.threads = h.0 in
    let bound : length k.threads ≤ max 64 sites = h.1 in
    (omega arith, subst (λ n. n ≤ max 64 sites) (sym same) bound, set_used turns k.threads t (state_of l (suc used)) (omega arith) h.2)

fork_later : (sites turns : ℕ) (k : Config) (new : Term ℕ) → AreFew sites turns k → length k.threads < 64 → AreFew sites turns (record { store = k.store; threads = k.threads ++ state_of (Running new) 0 ∷ [] })
fork_later sites turns k new h few =
    let same : total_used (k.threads ++ state_of (Running new) 0 ∷ []) ≡ total_used k.threads = turns_more k.threads (state_of (Running new) 0) refl in
    let more : length (k.threads ++ state_of (Running new) 0 ∷ []) ≡ suc (length k.threads) = push_length k.threads (state_of (Running new) 0) in
    (subst (λ n. length k.store.cells ≤ sites + n) (sym same) h.0, omega arith, add_used turns k.threads (state_of (Running new) 0) (omega arith) h.2)

few_turn : (sites turns : ℕ) (k k2 : Config) (t : ℕ) (a : Option Act) → AreFew sites turns k → Turn turns k t a k2 → AreFew sites turns k2
few_turn sites turns k _ t _ h (Steps {u} {used} {v} g e) = one_later sites turns k t used (Running u) (Running v) k.store h g.is_there g.is_left (omega arith)
few_turn sites turns k _ t _ h (Acts {u} {used} {op} {fs} {kind} {loc} {st} {focus} g f p) =
    one_later sites turns k t used (Running u) (Running (plug fs focus)) st h g.is_there g.is_left (cells_more k.store st (subst (LocalOutcome k.store) p (local_perform k t (self_at no_self fs) op)))
few_turn sites turns k _ t _ h (Forks {u} {used} {op} {fs} {loc} {new} {focus} g f p) =
    let few : length k.threads < 64 = subst (FewFork k) p (few_fork k t (self_at no_self fs) op) in
    let same : length (slice_set k.threads t (state_of (Running (plug fs focus)) (suc used))) ≡ length k.threads = set_length k.threads t (state_of (Running (plug fs focus)) (suc used)) in
    fork_later sites turns (record { store = k.store; threads = slice_set k.threads t (state_of (Running (plug fs focus)) (suc used)) }) new
    (one_later sites turns k t used (Running u) (Running (plug fs focus)) k.store h g.is_there g.is_left (omega arith)) (subst (λ n. n < 64) (sym same) few)
few_turn sites turns k _ t _ h (Ends {u} {used} {v} g f) = one_later sites turns k t used (Running u) (Returned v) k.store h g.is_there g.is_left (omega arith)
few_turn sites turns k _ t _ h (Raises {u} {used} {r} g f) = one_later sites turns k t used (Running u) (end_by r) k.store h g.is_there g.is_left (omega arith)

-- ---- the opening

terms_many : (site : ℕ) (bs : List BlockTree) → length (opening_terms site bs) ≡ length bs
terms_many site [] = refl
terms_many site (b ∷ bs) = ap suc (terms_many (suc site) bs)

threads_many : (ts : List (Term ℕ)) → length (new_threads ts) ≡ length ts
threads_many [] = refl
threads_many (t ∷ ts) = ap suc (threads_many ts)

none_used : (turns : ℕ) (ts : List (Term ℕ)) → UsedAtMost turns (new_threads ts)
none_used turns [] = tt
none_used turns (t ∷ ts) = (omega arith, none_used turns ts)

writers_many : (n : ℕ) (c : Cell ℕ) → length (replicate n c) ≡ n
writers_many zero c = refl
writers_many (suc n) c = ap suc (writers_many n c)

few_opening : (turns : ℕ) (trees : List BlockTree) → AreFew (length trees) turns (opening trees)
few_opening turns trees =
    let terms : length (opening_terms 0 trees) ≡ length trees = terms_many 0 trees in
    let writer : Cell ℕ = WriterCell [] in
    let cells : length (replicate (length (opening_terms 0 trees)) writer) ≡ length (opening_terms 0 trees) = writers_many (length (opening_terms 0 trees)) writer in
    let threads : length (new_threads (opening_terms 0 trees)) ≡ length (opening_terms 0 trees) = threads_many (opening_terms 0 trees) in
    (omega arith, omega arith, none_used turns (opening_terms 0 trees))

pub counts_law : CountsLaw
counts_law trees turns es k r = kept_by_replay turns (AreFew (length trees) turns) (λ k1 k2 t a p x. few_turn (length trees) turns k1 k2 t a p x) trees (few_opening turns trees) es k r
