-- Every located fold has a site for each cell, and for each thread one more than it has activations; each method's activation is at its object's site; and for each
-- pair of sites the requests are the replies and the calls that are open.
use Rattle.std.specs.Prelude.{Bool, List, None, Option, Some, [], false, if◌then◌else◌, length, map, nat_lt, option_map, refl, replicate, slice_get, slice_index_or, slice_set, suc, true, unwrap_or, zero, ℕ, ◌++◌, ◌+◌, ◌<◌, ◌==◌, ◌∷◌, ◌≡◌, ◌≤◌, ◌⊎◌}
use Rattle.std.proofs.Common.{inl, inr, subst, ap, sym, ◌∙◌, arith}
use Rattle.std.proofs.lemmas.Bool.{eqb-true}
use Rattle.std.proofs.lemmas.Bool.Decides.{nat_tests}
use Rattle.obq_base.specs.declared.acts.Act.{Act}
use Rattle.obq_base.specs.declared.acts.Entry.{Entry}
use Rattle.obq_base.specs.Tree.{BlockTree}
use Rattle.obq_model.specs.Terms.{LocKind, Object, Raised, Exn, ExitUp, Term}
use Rattle.obq_model.specs.Store.{Cell, WriterCell, Store, same_loc}
use Rattle.obq_model.specs.Step.{no_self, Operation, CallMethod, Frame, plug, Needs, find, self_at}
use Rattle.obq_model.specs.Config.{Execution, Running, Returned, Failed, ThreadState, Config, with_execution}
use Rattle.obq_model.specs.Effect.{end_by}
use Rattle.obq_model.specs.Located.{Place, AtCell, place_of, Message, message, Located, activations_of, site_here, Trail, left_from, turned, after_steps, site_at, place_in, execution_activations, thread_activations, with_more, after_act, after_entry, locate_execution, locate_from, waiting_requests, with_waiting, first_sites, located_opening, located_run, located_replay, sent}
use Rattle.obq_model.specs.Opening.{block_term, opening_terms, new_threads}
use Rattle.obq_model.specs.Replay.{after_pure, with_turns, take_of, take_entry}
use Rattle.obq_model.proofs.Slices.{get_below, set_same, set_length, set_set, push_other, push_length}
use Rattle.obq_laws.specs.ActivationSites.{objects_of, Listed, AreAt, IsSiteOf, execution_objects, TrailsAre, MethodsAtObjects}
use Rattle.obq_laws.specs.Determinism.{entry_of}
use Rattle.obq_laws.specs.Keeping.{IsFormedConfig, IsFormedIf}
use Rattle.obq_laws.specs.Known.{Places, Threads, IsKnown, IsKnownOperation, IsKnownFound, HasKind, IsPlace, Counted, IsKnownConfig}
use Rattle.obq_laws.specs.Locality.{IsLocalStore, SameStore, OneCell, OneName, OneMore}
use Rattle.obq_laws.specs.Messages.{open_calls, all_open, Balanced, RunBalanced, ReplayBalanced}
use Rattle.obq_laws.specs.Trails.{TrailsFit, SitesHold, SitesLaw}
use Rattle.obq_laws.specs.Turns.{state_of, changed, CanGo, Turn, Acts, Forks, Ends, Raises, Turns, NoTurn, TheAct}
use Rattle.obq_laws.proofs.Activated.{source_bare, objects_long}
use Rattle.obq_laws.proofs.Changes.{LocalOutcome, local_perform}
use Rattle.obq_laws.proofs.Determinism.{cut_entry}
use Rattle.obq_laws.proofs.FewActivations.{IsMethodCall, Moved, next_acts, acts_move, forks_move}
use Rattle.obq_laws.proofs.Formed.{GoodThreadState, good_state, entry_formed, opening_of_formed}
use Rattle.obq_laws.proofs.KnownActs.{IsKnownState, thread_known}
use Rattle.obq_laws.proofs.KnownReplay.{known_turn, known_opening}
use Rattle.obq_laws.proofs.KnownStep.{known_find}
use Rattle.obq_laws.proofs.LocatedReplay.{thread_from, entry_from, rest_from, located_is}
use Rattle.obq_laws.proofs.Opened.{source_block}
use Rattle.obq_laws.proofs.OwnerTerms.{eq_refl}
use Rattle.obq_laws.proofs.Trails.{Fits, MovesAt, turned_fits, turned_same, turned_more, turned_less, owed, owed_left, sent_more, no_message, message_turned, Walked, steps_walk}
use Rattle.obq_laws.proofs.Turns.{turns_counted, from_here, turn_by_turn, kept_by_entry}

-- ---- what an act makes of the activations

-- an activation begins at this place: a method's at a cell that is there
abbrev BeginsAt : Config → Place → Option ℕ → Type 0
BeginsAt k p None = Unit {0}
BeginsAt k p (Some o) = (p ≡ AtCell o) × (o < length k.store.cells)

-- an act at this place keeps the activations, begins one there, or leaves one of a method of the object there
abbrev MovesTo : Config → Place → List (Option ℕ) → List (Option ℕ) → Type 0
MovesTo k p os os2 = (os2 ≡ os) ⊎ ((x : Option ℕ) × (os2 ≡ x ∷ os) × BeginsAt k p x) ⊎ ((o : ℕ) × (os ≡ Some o ∷ os2) × (p ≡ AtCell o))

-- thread t goes on so; one thread more begins without any
data ActLeaves (k : Config) (t : ℕ) (p : Place) (os : List (Option ℕ)) : Config → Type 0 where
  Goes : (s : ThreadState) (st : Store ℕ) → IsLocalStore k.store st → MovesTo k p os (execution_objects s.execution) → ActLeaves k t p os (record { store = st; threads = slice_set k.threads t s })
  Begins : (s new : ThreadState) → MovesTo k p os (execution_objects s.execution) → execution_objects new.execution ≡ [] → ActLeaves k t p os (record { store = k.store; threads = slice_set k.threads t s ++ new ∷ [] })

in_store : (kind : LocKind) (cs : List (Cell ℕ)) (o : ℕ) → HasKind kind (slice_get cs o) → o < length cs
in_store kind [] o h = absurd h
in_store kind (c ∷ cs) zero h = omega arith
in_store kind (c ∷ cs) (suc o) h = let l = in_store kind cs o h in omega arith

called_there : (trees : List BlockTree) (k : Config) (op : Operation ℕ) (o : ℕ) → IsKnownOperation (IsPlace k.store) (Counted trees k.threads) op → IsMethodCall op o → BeginsAt k (place_of op) (Some o)
called_there trees k (CallMethod p x vs) o h i = (ap AtCell i, subst (λ q. q < length k.store.cells) i (in_store Object k.store.cells p h.0))
called_there trees k op o h i = absurd i

moves_to : (trees : List BlockTree) (k : Config) (op : Operation ℕ) (os os2 : List (Option ℕ)) → IsKnownOperation (IsPlace k.store) (Counted trees k.threads) op → Moved op os os2 → MovesTo k (place_of op) os os2
moves_to trees k op os os2 h (inl e) = inl e
moves_to trees k op os os2 h (inr (inl (None, e, m, i))) = inr (inl (None, e, tt))
moves_to trees k op os os2 h (inr (inl (Some o, e, m, i))) = inr (inl (Some o, e, called_there trees k op o h i))
moves_to trees k op os os2 h (inr (inr x)) = inr (inr x)

-- what an operation that stands next has is known
known_here : (trees : List BlockTree) (turns : ℕ) (k : Config) (t : ℕ) (u : Term ℕ) (used : ℕ) (op : Operation ℕ) (fs : List (Frame ℕ)) → IsKnownConfig trees k → CanGo turns k t u used → find same_loc 0 no_self u ≡ Needs op fs → IsKnownOperation (IsPlace k.store) (Counted trees k.threads) op
known_here trees turns k t u used op fs c g f =
    let L : Places ℕ = IsPlace k.store in
    let T : Threads = Counted trees k.threads in
    let h : IsKnown L T u = subst (IsKnownState L T) g.is_there (thread_known L T k.threads t c.1) in
    (subst (IsKnownFound L T) f (known_find L T same_loc 0 no_self u tt h)).0

no_objects : (r : Raised) → execution_objects (end_by r) ≡ []
no_objects (Exn e) = refl
no_objects ExitUp = refl

-- the term that a thread goes on with, and d for one that doesn't
abbrev term_in : Term ℕ → Execution → Term ℕ
term_in d (Running u) = u
term_in d (Returned v) = d
term_in d (Failed x) = d

abbrev term_at : Term ℕ → Option ThreadState → Term ℕ
term_at d None = d
term_at d (Some s) = term_in d s.execution

running_is : (k : Config) (t : ℕ) (u v : Term ℕ) (used m : ℕ) → slice_get k.threads t ≡ Some (state_of (Running u) used) → slice_get k.threads t ≡ Some (state_of (Running v) m) → u ≡ v
running_is k t u v used m e f = ap (term_at u) (sym e ∙ f)

act_leaves : (trees : List BlockTree) (turns : ℕ) (k k2 : Config) (t : ℕ) (a : Act) (v : Term ℕ) (m : ℕ) → IsFormedConfig k → IsKnownConfig trees k → slice_get k.threads t ≡ Some (state_of (Running v) m) → Turn turns k t (Some a) k2
    → ActLeaves k t (place_in (find same_loc 0 no_self v)) (objects_of v) k2
act_leaves trees turns k _ t _ v m c known here (Acts {u} {used} {op} {fs} {kind} {loc} {st} {focus} g f p) =
    let same : u ≡ v = running_is k t u v used m g.is_there here in
    let local : IsLocalStore k.store st = subst (LocalOutcome k.store) p (local_perform k t (self_at no_self fs) op) in
    let moved : MovesTo k (place_of op) (objects_of u) (objects_of (plug fs focus)) = moves_to trees k op (objects_of u) (objects_of (plug fs focus)) (known_here trees turns k t u used op fs known g f) (acts_move turns k t u used op fs kind loc st focus c g f p) in
    subst (λ w. ActLeaves k t (place_in (find same_loc 0 no_self w)) (objects_of w) (changed k t (Running (plug fs focus)) (suc used) st)) same
    (Goes (state_of (Running (plug fs focus)) (suc used)) st local (subst (λ x. MovesTo k (place_in x) (objects_of u) (objects_of (plug fs focus))) (sym f) moved))
act_leaves trees turns k _ t _ v m c known here (Forks {u} {used} {op} {fs} {loc} {new} {focus} g f p) =
    let same : u ≡ v = running_is k t u v used m g.is_there here in
    let both = forks_move turns k t u used op fs loc new focus c g f p in
    let moved : MovesTo k (place_of op) (objects_of u) (objects_of (plug fs focus)) = moves_to trees k op (objects_of u) (objects_of (plug fs focus)) (known_here trees turns k t u used op fs known g f) both.0 in
    subst (λ w. ActLeaves k t (place_in (find same_loc 0 no_self w)) (objects_of w) (record { store = k.store; threads = slice_set k.threads t (state_of (Running (plug fs focus)) (suc used)) ++ state_of (Running new) 0 ∷ [] })) same
    (Begins (state_of (Running (plug fs focus)) (suc used)) (state_of (Running new) 0) (subst (λ x. MovesTo k (place_in x) (objects_of u) (objects_of (plug fs focus))) (sym f) moved) both.1)
act_leaves trees turns k _ t _ v m c known here (Ends {u} {used} {v = w} g f) =
    let same : u ≡ v = running_is k t u v used m g.is_there here in
    let none : objects_of u ≡ [] = subst (Listed 0 (objects_of u)) f (next_acts turns k t u used c g) in
    subst (λ x. ActLeaves k t (place_in (find same_loc 0 no_self x)) (objects_of x) (changed k t (Returned w) (suc used) k.store)) same (Goes (state_of (Returned w) (suc used)) k.store SameStore (inl (sym none)))
act_leaves trees turns k _ t _ v m c known here (Raises {u} {used} {r} g f) =
    let same : u ≡ v = running_is k t u v used m g.is_there here in
    let none : objects_of u ≡ [] = subst (Listed 0 (objects_of u)) f (next_acts turns k t u used c g) in
    subst (λ x. ActLeaves k t (place_in (find same_loc 0 no_self x)) (objects_of x) (changed k t (end_by r) (suc used) k.store)) same (Goes (state_of (end_by r) (suc used)) k.store SameStore (inl (no_objects r ∙ sym none)))

-- ---- lists of sites

trails_at : (P : ℕ → ℕ → Type 0) (trs : List (List ℕ)) (ts : List ThreadState) (t : ℕ) (s : ThreadState) → TrailsAre P trs ts → slice_get ts t ≡ Some s → Fits P (slice_index_or trs t []) (execution_objects s.execution) × (t < length trs)
trails_at P [] [] t s h e = absurd (cc e)
trails_at P [] (x ∷ xs) t s h e = absurd h
trails_at P (tr ∷ trs) [] t s h e = absurd h
trails_at P (tr ∷ trs) (x ∷ xs) zero s h e = let same : x ≡ s = cc e in (subst (λ (y : ThreadState). Fits P tr (execution_objects y.execution)) same h.0, omega arith)
trails_at P (tr ∷ trs) (x ∷ xs) (suc t) s h e = let rest = trails_at P trs xs t s h.1 e in (rest.0, above t (length trs) rest.1)
  where
    above : (m n : ℕ) → m < n → suc m < suc n
    above m n l = omega arith

trails_set : (P : ℕ → ℕ → Type 0) (trs : List (List ℕ)) (ts : List ThreadState) (t : ℕ) (tr : List ℕ) (s : ThreadState) → TrailsAre P trs ts → Fits P tr (execution_objects s.execution) → TrailsAre P (slice_set trs t tr) (slice_set ts t s)
trails_set P [] [] t tr s h e = tt
trails_set P [] (x ∷ xs) t tr s h e = absurd h
trails_set P (y ∷ trs) [] t tr s h e = absurd h
trails_set P (y ∷ trs) (x ∷ xs) zero tr s h e = (e, h.1)
trails_set P (y ∷ trs) (x ∷ xs) (suc t) tr s h e = (h.0, trails_set P trs xs t tr s h.1 e)

trails_more : (P : ℕ → ℕ → Type 0) (trs : List (List ℕ)) (ts : List ThreadState) (tr : List ℕ) (s : ThreadState) → TrailsAre P trs ts → Fits P tr (execution_objects s.execution) → TrailsAre P (trs ++ tr ∷ []) (ts ++ s ∷ [])
trails_more P [] [] tr s h e = (e, tt)
trails_more P [] (x ∷ xs) tr s h e = absurd h
trails_more P (y ∷ trs) [] tr s h e = absurd h
trails_more P (y ∷ trs) (x ∷ xs) tr s h e = (h.0, trails_more P trs xs tr s h.1 e)

at_wider : (P Q : ℕ → ℕ → Type 0) → ((o s : ℕ) → P o s → Q o s) → (ss : List ℕ) (os : List (Option ℕ)) → AreAt P ss os → AreAt Q ss os
at_wider P Q w ss [] h = tt
at_wider P Q w [] (o ∷ os) h = absurd h
at_wider P Q w (s ∷ ss) (None ∷ os) h = at_wider P Q w ss os h
at_wider P Q w (s ∷ ss) (Some o ∷ os) h = (w o s h.0, at_wider P Q w ss os h.1)

trails_wider : (P Q : ℕ → ℕ → Type 0) → ((o s : ℕ) → P o s → Q o s) → (trs : List (List ℕ)) (ts : List ThreadState) → TrailsAre P trs ts → TrailsAre Q trs ts
trails_wider P Q w [] [] h = tt
trails_wider P Q w [] (x ∷ xs) h = absurd h
trails_wider P Q w (y ∷ trs) [] h = absurd h
trails_wider P Q w (y ∷ trs) (x ∷ xs) h = ((h.0.0, at_wider P Q w y (execution_objects x.execution) h.0.1), trails_wider P Q w trs xs h.1)

as_many : {A : Type 0} (m n : ℕ) (site : A) (xs : List A) → n ≡ m → with_more m n site xs ≡ xs
as_many {A} m n site xs e = by (nat_lt m n) refl
  where
    by : (b : Bool) → nat_lt m n ≡ b → (if b then xs ++ site ∷ [] else xs) ≡ xs
    by true q = let l : m < n = grind (arith, nat_tests) in absurd (omega arith)
    by false q = refl

one_more : {A : Type 0} (m n : ℕ) (site : A) (xs : List A) → n ≡ suc m → with_more m n site xs ≡ xs ++ site ∷ []
one_more {A} m n site xs e = by (nat_lt m n) refl
  where
    by : (b : Bool) → nat_lt m n ≡ b → (if b then xs ++ site ∷ [] else xs) ≡ xs ++ site ∷ []
    by true q = refl
    by false q = let l : n ≤ m = grind (arith, nat_tests) in absurd (omega arith)

cells_by : (st st2 : Store ℕ) → IsLocalStore st st2 → (length st2.cells ≡ length st.cells) ⊎ (length st2.cells ≡ suc (length st.cells))
cells_by st _ SameStore = inl refl
cells_by st _ (OneCell l c d e h) = inl (set_length st.cells l d)
cells_by st _ (OneName x v) = inl refl
cells_by st _ (OneMore c) = inr (push_length st.cells c)

-- a site for each cell
sites_more : (m n site : ℕ) (sites : List ℕ) → length sites ≡ m → (n ≡ m) ⊎ (n ≡ suc m) → length (with_more m n site sites) ≡ n
sites_more m n site sites e (inl q) = ap (λ (xs : List ℕ). length xs) (as_many m n site sites q) ∙ e ∙ sym q
sites_more m n site sites e (inr q) = ap (λ (xs : List ℕ). length xs) (one_more m n site sites q) ∙ push_length sites site ∙ ap suc e ∙ sym q

-- a cell keeps its site
site_kept : (m n here : ℕ) (cells : List ℕ) (o s : ℕ) → IsSiteOf cells o s → IsSiteOf (with_more m n here cells) o s
site_kept m n here cells o s h = by (nat_lt m n)
  where
    old : (o < length cells) → o ≡ length cells → ⊥
    old l e = absurd (omega arith)

    by : (b : Bool) → slice_get (if b then cells ++ here ∷ [] else cells) o ≡ Some s
    by true = push_other cells here o (old (get_below cells o s h)) ∙ h
    by false = h

get_there : {A : Type 0} (xs : List A) (k : ℕ) (d : A) → k < length xs → slice_get xs k ≡ Some (slice_index_or xs k d)
get_there [] k d l = absurd (omega arith)
get_there (x ∷ xs) zero d l = refl
get_there (x ∷ xs) (suc k) d l = get_there xs k d (omega arith)

index_is : {A : Type 0} (xs : List A) (k : ℕ) (d x : A) → slice_get xs k ≡ Some x → slice_index_or xs k d ≡ x
index_is [] k d x e = absurd (cc e)
index_is (y ∷ ys) zero d x e = cc e
index_is (y ∷ ys) (suc k) d x e = index_is ys k d x e

-- the place of a cell is its site
pub place_site : (sites here : ℕ) (l : Located) (p : Place) (o : ℕ) → p ≡ AtCell o → site_at sites l here p ≡ slice_index_or l.cell_sites o 0
place_site sites here l p o e = ap (site_at sites l here) e

-- ---- open calls

open_set : (a b : ℕ) (trs : List (List ℕ)) (t : ℕ) (ss : List ℕ) → t < length trs
    → sent a b (all_open (slice_set trs t ss)) + sent a b (open_calls (slice_index_or trs t [])) ≡ sent a b (all_open trs) + sent a b (open_calls ss)
open_set a b [] t ss l = absurd (omega arith)
open_set a b (x ∷ xs) zero ss l =
    by (sent a b (open_calls ss ++ all_open xs)) (sent a b (open_calls x ++ all_open xs)) (sent a b (open_calls ss)) (sent a b (open_calls x)) (sent a b (all_open xs)) (sent_more a b (open_calls ss) (all_open xs)) (sent_more a b (open_calls x) (all_open xs))
  where
    by : (p q m n r : ℕ) → p ≡ m + r → q ≡ n + r → p + n ≡ q + m
    by p q m n r e f = omega arith
open_set a b (x ∷ xs) (suc t) ss l =
    let rest = open_set a b xs t ss (omega arith) in
    by (sent a b (open_calls x ++ all_open (slice_set xs t ss))) (sent a b (open_calls x ++ all_open xs)) (sent a b (open_calls x)) (sent a b (all_open (slice_set xs t ss))) (sent a b (all_open xs)) (sent a b (open_calls (slice_index_or xs t []))) (sent a b (open_calls ss))
    (sent_more a b (open_calls x) (all_open (slice_set xs t ss))) (sent_more a b (open_calls x) (all_open xs)) rest
  where
    by : (p q x m n o c : ℕ) → p ≡ x + m → q ≡ x + n → m + o ≡ n + c → p + o ≡ q + c
    by p q x m n o c e f g = omega arith

-- a thread that begins has none
open_begins : (a b here : ℕ) (trs : List (List ℕ)) → sent a b (all_open (trs ++ (here ∷ []) ∷ [])) ≡ sent a b (all_open trs)
open_begins a b here [] = refl
open_begins a b here (x ∷ xs) = sent_more a b (open_calls x) (all_open (xs ++ (here ∷ []) ∷ [])) ∙ ap (λ n. sent a b (open_calls x) + n) (open_begins a b here xs) ∙ sym (sent_more a b (open_calls x) (all_open xs))

-- the trail and the replies behind an act
abbrev after_turn : ℕ → ℕ → ℕ → Trail → Trail
after_turn there before after tr = ((turned there before after tr).0, (if before == after then message there (site_here tr.0) else []) ++ (turned there before after tr).1)

never_next : (n : ℕ) → (n == suc n) ≡ false
never_next n = by (n == suc n) refl
  where
    other : n ≡ suc n → ⊥
    other e = absurd (omega arith)

    by : (b : Bool) → (n == suc n) ≡ b → (n == suc n) ≡ false
    by true q = absurd (other (eqb-true n (suc n) q))
    by false q = q

never_last : (n : ℕ) → (suc n == n) ≡ false
never_last n = by (suc n == n) refl
  where
    other : suc n ≡ n → ⊥
    other e = absurd (omega arith)

    by : (b : Bool) → (suc n == n) ≡ b → (suc n == n) ≡ false
    by true q = absurd (other (eqb-true (suc n) n q))
    by false q = q

-- an act that keeps the activations, that begins one, and that leaves one at its own site
turn_same : (a b there n : ℕ) (tr : Trail) → owed a b (after_turn there n n tr) ≡ sent a b (message (site_here tr.0) there) + owed a b tr
turn_same a b there n tr =
    ap (λ (x : Trail). sent b a ((if n == n then message there (site_here tr.0) else []) ++ x.1) + sent a b (open_calls x.0)) (turned_same there n tr)
    ∙ ap (λ (c : Bool). sent b a ((if c then message there (site_here tr.0) else []) ++ tr.1) + sent a b (open_calls tr.0)) (eq_refl n)
    ∙ by (sent b a (message there (site_here tr.0) ++ tr.1)) (sent b a (message there (site_here tr.0))) (sent a b (message (site_here tr.0) there)) (sent b a tr.1) (sent a b (open_calls tr.0)) (sent_more b a (message there (site_here tr.0)) tr.1) (message_turned a b there (site_here tr.0))
  where
    by : (x p q m o : ℕ) → x ≡ p + m → p ≡ q → x + o ≡ q + (m + o)
    by x p q m o e f = omega arith

turn_begins : (a b there n m : ℕ) (ss : List ℕ) (ms : List Message) → length ss ≡ suc m → owed a b (after_turn there n (suc n) (ss, ms)) ≡ sent a b (message (site_here ss) there) + owed a b (ss, ms)
turn_begins a b there n m [] ms e = absurd (omega arith)
turn_begins a b there n m (s ∷ ss) ms e =
    ap (λ (x : Trail). sent b a ((if n == suc n then message there s else []) ++ x.1) + sent a b (open_calls x.0)) (turned_more there n (s ∷ ss, ms))
    ∙ ap (λ (c : Bool). sent b a ((if c then message there s else []) ++ ms) + sent a b (message s there ++ open_calls (s ∷ ss))) (never_next n)
    ∙ by (sent b a ms) (sent a b (message s there ++ open_calls (s ∷ ss))) (sent a b (message s there)) (sent a b (open_calls (s ∷ ss))) (sent_more a b (message s there) (open_calls (s ∷ ss)))
  where
    by : (m x p o : ℕ) → x ≡ p + o → m + x ≡ p + (m + o)
    by m x p o e = omega arith

turn_leaves : (a b there n : ℕ) (tr : Trail) → there ≡ site_here tr.0 → length tr.0 ≡ suc (suc n) → owed a b (after_turn there (suc n) n tr) ≡ sent a b (message (site_here tr.0) there) + owed a b tr
turn_leaves a b there n tr h e =
    ap (λ (x : Trail). sent b a ((if suc n == n then message there (site_here tr.0) else []) ++ x.1) + sent a b (open_calls x.0)) (turned_less there n tr)
    ∙ ap (λ (c : Bool). sent b a ((if c then message there (site_here tr.0) else []) ++ (left_from tr).1) + sent a b (open_calls (left_from tr).0)) (never_last n)
    ∙ owed_left a b n tr.0 tr.1 e
    ∙ by (owed a b tr) (sent a b (message (site_here tr.0) there)) (ap (sent a b) (ap (message (site_here tr.0)) h ∙ no_message (site_here tr.0)))
  where
    by : (x m : ℕ) → m ≡ 0 → x ≡ m + x
    by x m e = omega arith

-- ---- behind an act

-- the sites, the trails and the messages of a located configuration
abbrev pub AreSited : Located → Type 0
AreSited l = (length l.cell_sites ≡ length l.config.store.cells) × TrailsAre (IsSiteOf l.cell_sites) l.thread_sites l.config.threads × Balanced l

-- from a method's activation that is left, the object's site
leaves_here : (cells : List ℕ) (tr : List ℕ) (o : ℕ) (os : List (Option ℕ)) → Fits (IsSiteOf cells) tr (Some o ∷ os) → slice_index_or cells o 0 ≡ site_here tr
leaves_here cells [] o os h = absurd h.1
leaves_here cells (s ∷ ss) o os h = index_is cells o 0 s h.1.0

moves_at : (sites : ℕ) (l : Located) (k : Config) (p : Place) (here : ℕ) (os os2 : List (Option ℕ)) → length l.cell_sites ≡ length k.store.cells → MovesTo k p os os2 → MovesAt (IsSiteOf l.cell_sites) (site_at sites l here p) os os2
moves_at sites l k p here os os2 c (inl e) = inl e
moves_at sites l k p here os os2 c (inr (inl (None, e, i))) = inr (inl (None, e, tt))
moves_at sites l k p here os os2 c (inr (inl (Some o, e, i))) =
    inr (inl (Some o, e, get_there l.cell_sites o 0 (subst (λ n. o < n) (sym c) i.1) ∙ ap Some (sym (place_site sites here l p o i.0))))
moves_at sites l k p here os os2 c (inr (inr (o, e, i))) = inr (inr (Some o, e))

-- the messages behind an act
act_owes : (a b sites : ℕ) (l : Located) (k : Config) (p : Place) (os os2 : List (Option ℕ)) (tr : Trail) → Fits (IsSiteOf l.cell_sites) tr.0 os → MovesTo k p os os2
    → owed a b (after_turn (site_at sites l (site_here tr.0) p) (length os) (length os2) tr) ≡ sent a b (message (site_here tr.0) (site_at sites l (site_here tr.0) p)) + owed a b tr
act_owes a b sites l k p os os2 tr h (inl e) =
    ap (λ (x : List (Option ℕ)). owed a b (after_turn (site_at sites l (site_here tr.0) p) (length os) (length x) tr)) e ∙ turn_same a b (site_at sites l (site_here tr.0) p) (length os) tr
act_owes a b sites l k p os os2 tr h (inr (inl (x, e, i))) =
    ap (λ (y : List (Option ℕ)). owed a b (after_turn (site_at sites l (site_here tr.0) p) (length os) (length y) tr)) e ∙ turn_begins a b (site_at sites l (site_here tr.0) p) (length os) (length os) tr.0 tr.1 h.0
act_owes a b sites l k p os os2 tr h (inr (inr (o, e, i))) =
    let fits : Fits (IsSiteOf l.cell_sites) tr.0 (Some o ∷ os2) = subst (Fits (IsSiteOf l.cell_sites) tr.0) e h in
    ap (λ (x : List (Option ℕ)). owed a b (after_turn (site_at sites l (site_here tr.0) p) (length x) (length os2) tr)) e
    ∙ turn_leaves a b (site_at sites l (site_here tr.0) p) (length os2) tr (place_site sites (site_here tr.0) l p o i ∙ leaves_here l.cell_sites tr.0 o os2 fits) fits.0

-- the activations of a thread that is there
acts_at : (k : Config) (t : ℕ) (s : ThreadState) → slice_get k.threads t ≡ Some s → thread_activations k t ≡ execution_activations s.execution
acts_at k t s e = ap (λ (o : Option ThreadState). elim o [ None ↦ 0 | Some state ↦ execution_activations state.execution ]) e

execution_long : (x : Execution) → length (execution_objects x) ≡ execution_activations x
execution_long (Running u) = objects_long u
execution_long (Returned v) = refl
execution_long (Failed e) = refl

-- how many activations thread t has behind an act
acts_behind : (k2 : Config) (ts : List ThreadState) (t : ℕ) (s : ThreadState) → t < length ts → slice_get k2.threads t ≡ slice_get (slice_set ts t s) t → length (execution_objects s.execution) ≡ thread_activations k2 t
acts_behind k2 ts t s l e = execution_long s.execution ∙ sym (acts_at k2 t s (e ∙ set_same ts t s l))

-- what the trail and the messages of a thread come to
record Behind (l : Located) (t there m : ℕ) (v : Term ℕ) (tr : Trail) (os2 : List (Option ℕ)) (after : ℕ) : Type 0 where
  fits : Fits (IsSiteOf l.cell_sites) (turned there (activations_of v) after tr).0 os2
  owes : (a b : ℕ) → owed a b (after_turn there (activations_of v) after tr) ≡ sent a b (message (site_here tr.0) there) + owed a b (slice_index_or l.thread_sites t [], l.replies)

behind_act : (sites : ℕ) (l : Located) (t m : ℕ) (v : Term ℕ) (k : Config) (p : Place) (tr : Trail) (os2 : List (Option ℕ)) (after : ℕ) → k.store ≡ l.config.store → AreSited l → Walked (IsSiteOf l.cell_sites) (slice_index_or l.thread_sites t [], l.replies) tr v
    → MovesTo k p (objects_of v) os2 → length os2 ≡ after → Behind l t (site_at sites l (site_here tr.0) p) m v tr os2 after
behind_act sites l t m v k p tr os2 after store h w moved long =
    let there : ℕ = site_at sites l (site_here tr.0) p in
    let cells : length l.cell_sites ≡ length k.store.cells = h.0 ∙ ap (λ (st : Store ℕ). length st.cells) (sym store) in
    let fits = turned_fits (IsSiteOf l.cell_sites) there (objects_of v) os2 tr w.0 (moves_at sites l k p (site_here tr.0) (objects_of v) os2 cells moved) in
    record {
      fits = subst (λ n. Fits (IsSiteOf l.cell_sites) (turned there (activations_of v) n tr).0 os2) long (subst (λ n. Fits (IsSiteOf l.cell_sites) (turned there n (length os2) tr).0 os2) (objects_long v) fits);
      owes = λ a b.
          ap (λ n. owed a b (after_turn there (activations_of v) n tr)) (sym long) ∙ ap (λ n. owed a b (after_turn there n (length os2) tr)) (sym (objects_long v))
          ∙ act_owes a b sites l k p (objects_of v) os2 tr w.0 moved ∙ ap (λ n. sent a b (message (site_here tr.0) there) + n) (w.1 a b);
    }

-- the requests of the whole, where those of one trail and the replies change so
balance : (a b : ℕ) (l : Located) (t : ℕ) (tr : Trail) (ms : List Message) → Balanced l → t < length l.thread_sites → owed a b tr ≡ sent a b ms + owed a b (slice_index_or l.thread_sites t [], l.replies)
    → sent a b (ms ++ l.requests) ≡ sent b a tr.1 + sent a b (all_open (slice_set l.thread_sites t tr.0))
balance a b l t tr ms h below e =
    by (sent a b (ms ++ l.requests)) (sent a b ms) (sent a b l.requests) (sent b a l.replies) (sent a b (all_open l.thread_sites)) (sent b a tr.1) (sent a b (open_calls tr.0)) (sent a b (all_open (slice_set l.thread_sites t tr.0))) (sent a b (open_calls (slice_index_or l.thread_sites t [])))
    (sent_more a b ms l.requests) (h a b) (open_set a b l.thread_sites t tr.0 below) e
  where
    by : (x m r p o r2 c2 o2 c : ℕ) → x ≡ m + r → r ≡ p + o → o2 + c ≡ o + c2 → r2 + c2 ≡ m + (p + c) → x ≡ r2 + o2
    by x m r p o r2 c2 o2 c e f g i = omega arith

act_sites : (sites : ℕ) (l : Located) (t m : ℕ) (v : Term ℕ) (old : ThreadState) (tr : Trail) (p : Place) (k2 : Config) → slice_get l.config.threads t ≡ Some old → AreSited l → Walked (IsSiteOf l.cell_sites) (slice_index_or l.thread_sites t [], l.replies) tr v
    → ActLeaves (changed l.config t (Running v) m l.config.store) t p (objects_of v) k2 → AreSited (after_act l k2 t v tr (site_at sites l (site_here tr.0) p))
act_sites sites l t m v old tr p _ here h w (Goes s st local moved) =
    let ts : List ThreadState = slice_set l.config.threads t (state_of (Running v) m) in
    let k1 : Config = changed l.config t (Running v) m l.config.store in
    let k2 : Config = record { store = st; threads = slice_set ts t s } in
    let there : ℕ = site_at sites l (site_here tr.0) p in
    let below = get_below l.config.threads t old here in
    let known = trails_at (IsSiteOf l.cell_sites) l.thread_sites l.config.threads t old h.1 here in
    let long : length ts ≡ length l.config.threads = set_length l.config.threads t (state_of (Running v) m) in
    let behind : Behind l t there m v tr (execution_objects s.execution) (thread_activations k2 t) = behind_act sites l t m v k1 p tr (execution_objects s.execution) (thread_activations k2 t) refl h w moved (acts_behind k2 ts t s (subst (λ n. t < n) (sym long) below) refl) in
    let tr2 : Trail = after_turn there (activations_of v) (thread_activations k2 t) tr in
    let P : ℕ → ℕ → Type 0 = IsSiteOf (with_more (length l.config.store.cells) (length st.cells) (site_here tr.0) l.cell_sites) in
    let trails : TrailsAre P (slice_set l.thread_sites t tr2.0) (slice_set l.config.threads t s) =
    trails_wider (IsSiteOf l.cell_sites) P (site_kept (length l.config.store.cells) (length st.cells) (site_here tr.0) l.cell_sites) (slice_set l.thread_sites t tr2.0) (slice_set l.config.threads t s)
    (trails_set (IsSiteOf l.cell_sites) l.thread_sites l.config.threads t tr2.0 s h.1 behind.fits) in
    let same : with_more (length l.config.threads) (length (slice_set ts t s)) (site_here tr.0 ∷ []) (slice_set l.thread_sites t tr2.0) ≡ slice_set l.thread_sites t tr2.0 =
    as_many (length l.config.threads) (length (slice_set ts t s)) (site_here tr.0 ∷ []) (slice_set l.thread_sites t tr2.0) (set_length ts t s ∙ long) in (
      sites_more (length l.config.store.cells) (length st.cells) (site_here tr.0) l.cell_sites h.0 (cells_by l.config.store st local),
      subst (λ (xs : List (List ℕ)). TrailsAre P xs (slice_set ts t s)) (sym same) (subst (TrailsAre P (slice_set l.thread_sites t tr2.0)) (sym (set_set l.config.threads t (state_of (Running v) m) s)) trails),
      (λ a b. balance a b l t tr2 (message (site_here tr.0) there) h.2 known.1 (behind.owes a b) ∙ ap (λ (xs : List (List ℕ)). sent b a tr2.1 + sent a b (all_open xs)) (sym same)),
    )
act_sites sites l t m v old tr p _ here h w (Begins s new moved none) =
    let ts : List ThreadState = slice_set l.config.threads t (state_of (Running v) m) in
    let ts2 : List ThreadState = slice_set ts t s in
    let k1 : Config = changed l.config t (Running v) m l.config.store in
    let k2 : Config = record { store = l.config.store; threads = ts2 ++ new ∷ [] } in
    let there : ℕ = site_at sites l (site_here tr.0) p in
    let below = get_below l.config.threads t old here in
    let known = trails_at (IsSiteOf l.cell_sites) l.thread_sites l.config.threads t old h.1 here in
    let long : length ts ≡ length l.config.threads = set_length l.config.threads t (state_of (Running v) m) in
    let long2 : length ts2 ≡ length l.config.threads = set_length ts t s ∙ long in
    let pushed : slice_get (ts2 ++ new ∷ []) t ≡ slice_get ts2 t = push_other ts2 new t (other t (length l.config.threads) (length ts2) below long2) in
    let behind : Behind l t there m v tr (execution_objects s.execution) (thread_activations k2 t) =
    behind_act sites l t m v k1 p tr (execution_objects s.execution) (thread_activations k2 t) refl h w moved (acts_behind k2 ts t s (subst (λ n. t < n) (sym long) below) pushed) in
    let tr2 : Trail = after_turn there (activations_of v) (thread_activations k2 t) tr in
    let P : ℕ → ℕ → Type 0 = IsSiteOf (with_more (length l.config.store.cells) (length l.config.store.cells) (site_here tr.0) l.cell_sites) in
    let trails : TrailsAre P (slice_set l.thread_sites t tr2.0) (slice_set l.config.threads t s) =
    trails_wider (IsSiteOf l.cell_sites) P (site_kept (length l.config.store.cells) (length l.config.store.cells) (site_here tr.0) l.cell_sites) (slice_set l.thread_sites t tr2.0) (slice_set l.config.threads t s)
    (trails_set (IsSiteOf l.cell_sites) l.thread_sites l.config.threads t tr2.0 s h.1 behind.fits) in
    let same : with_more (length l.config.threads) (length (ts2 ++ new ∷ [])) (site_here tr.0 ∷ []) (slice_set l.thread_sites t tr2.0) ≡ slice_set l.thread_sites t tr2.0 ++ (site_here tr.0 ∷ []) ∷ [] =
    one_more (length l.config.threads) (length (ts2 ++ new ∷ [])) (site_here tr.0 ∷ []) (slice_set l.thread_sites t tr2.0) (push_length ts2 new ∙ ap suc long2) in (
      sites_more (length l.config.store.cells) (length l.config.store.cells) (site_here tr.0) l.cell_sites h.0 (inl refl),
      subst (λ (xs : List (List ℕ)). TrailsAre P xs (ts2 ++ new ∷ [])) (sym same)
          (trails_more P (slice_set l.thread_sites t tr2.0) ts2 (site_here tr.0 ∷ []) new (subst (TrailsAre P (slice_set l.thread_sites t tr2.0)) (sym (set_set l.config.threads t (state_of (Running v) m) s)) trails)
          (subst (Fits P (site_here tr.0 ∷ [])) (sym none) (refl, tt))),
      (λ a b. balance a b l t tr2 (message (site_here tr.0) there) h.2 known.1 (behind.owes a b)
          ∙ ap (λ n. sent b a tr2.1 + n) (sym (open_begins a b (site_here tr.0) (slice_set l.thread_sites t tr2.0))) ∙ ap (λ (xs : List (List ℕ)). sent b a tr2.1 + sent a b (all_open xs)) (sym same)),
    )
  where
    other : (t n m : ℕ) → t < n → m ≡ n → t ≡ m → ⊥
    other t n m l e q = absurd (omega arith)

-- ---- entries

-- behind the pure steps of an entry
abbrev Stepped : Config → ℕ → ℕ → Term ℕ → Config → Type 0
Stepped k t n u k1 = (v : Term ℕ) × (m : ℕ) × (after_pure n u ≡ Some v) × (changed k t (Running v) m k.store ≡ k1)

stepped : (k k1 : Config) (t n used : ℕ) (u : Term ℕ) → slice_get k.threads t ≡ Some (state_of (Running u) used) → take_of k (entry_of t n None) (after_pure n u) ≡ Some k1 → Stepped k t n u k1
stepped k k1 t n used u here r = by (after_pure n u) refl r
  where
    by : (o : Option (Term ℕ)) → after_pure n u ≡ o → take_of k (entry_of t n None) o ≡ Some k1 → Stepped k t n u k1
    by None q e = absurd (cc e)
    by (Some v) q e =
        let same : with_turns t n (with_execution k t (Running v)) ≡ k1 = cc e in
        (v, used + n, q, sym (turns_counted k t n (state_of (Running u) used) (Running v) here) ∙ same)

-- the act behind them, if there is one
behind_steps : (trees : List BlockTree) (sites turns : ℕ) (l : Located) (k2 : Config) (t n m : ℕ) (u v : Term ℕ) (a : Option Act) (tr : Trail) (old : ThreadState) → IsFormedConfig (changed l.config t (Running v) m l.config.store) → IsKnownConfig trees (changed l.config t (Running v) m l.config.store)
    → AreSited l → slice_get l.config.threads t ≡ Some old → Walked (IsSiteOf l.cell_sites) (slice_index_or l.thread_sites t [], l.replies) tr v → Turns turns t (changed l.config t (Running v) m l.config.store) 0 a k2 → AreSited (after_entry sites l k2 (entry_of t n a) u v tr)
behind_steps trees sites turns l _ t n m u v _ tr old c1 known h here w (NoTurn) =
    let at = trails_at (IsSiteOf l.cell_sites) l.thread_sites l.config.threads t old h.1 here in
    (h.0, trails_set (IsSiteOf l.cell_sites) l.thread_sites l.config.threads t tr.0 (state_of (Running v) m) h.1 w.0, (λ a b. balance a b l t tr [] h.2 at.1 (w.1 a b ∙ zero_plus (owed a b (slice_index_or l.thread_sites t [], l.replies)))))
  where
    zero_plus : (n : ℕ) → n ≡ 0 + n
    zero_plus n = omega arith
behind_steps trees sites turns l k2 t n m u v _ tr old c1 known h here w (TheAct {a} y) =
    let there : slice_get (slice_set l.config.threads t (state_of (Running v) m)) t ≡ Some (state_of (Running v) m) = set_same l.config.threads t (state_of (Running v) m) (get_below l.config.threads t old here) in
    act_sites sites l t m v old tr (place_in (find same_loc 0 no_self v)) k2 here h w (act_leaves trees turns (changed l.config t (Running v) m l.config.store) k2 t a v m c1 known there y)

-- an entry
entry_sites : (trees : List BlockTree) (sites turns : ℕ) (l : Located) (k2 : Config) (t n used m : ℕ) (u v : Term ℕ) (a : Option Act) → IsFormedConfig l.config → AreSited l → slice_get l.config.threads t ≡ Some (state_of (Running u) used) → after_pure n u ≡ Some v
    → IsFormedConfig (changed l.config t (Running v) m l.config.store) → IsKnownConfig trees (changed l.config t (Running v) m l.config.store) → Turns turns t (changed l.config t (Running v) m l.config.store) 0 a k2 → AreSited (locate_execution sites l k2 (entry_of t n a) (Running u))
entry_sites trees sites turns l k2 t n used m u v a c h here q c1 known x =
    let before : Trail = (slice_index_or l.thread_sites t [], l.replies) in
    let tr : Trail = after_steps n u before in
    let formed : GoodThreadState l.config.store (Some (state_of (Running u) used)) = subst (GoodThreadState l.config.store) here (good_state l.config.store l.config.threads t c.0.1 c.1) in
    let w : Walked (IsSiteOf l.cell_sites) before tr v = steps_walk (IsSiteOf l.cell_sites) n u v before formed.0 (trails_at (IsSiteOf l.cell_sites) l.thread_sites l.config.threads t (state_of (Running u) used) h.1 here).0 q in
    subst (λ y. AreSited (after_entry sites l k2 (entry_of t n a) u y tr)) (sym (ap (λ o. unwrap_or o u) q)) (behind_steps trees sites turns l k2 t n m u v a tr (state_of (Running u) used) c1 known h here w x)

plus_zero : (n : ℕ) → n ≡ n + 0
plus_zero n = omega arith

-- a legal entry keeps that a configuration is known
entry_known : (trees : List BlockTree) (turns : ℕ) (k k2 : Config) (e : Entry) → IsKnownConfig trees k → take_entry turns k e ≡ Some k2 → IsKnownConfig trees k2
entry_known trees turns k k2 e c r = kept_by_entry turns (IsKnownConfig trees) (λ x y t a p z. known_turn trees turns x y t a p z) e.thread e.pure e.act k k2 c (turn_by_turn turns k k2 e r)

entry_holds : (trees : List BlockTree) (sites turns : ℕ) (l : Located) (k2 : Config) (e : Entry) (state : ThreadState) → IsFormedConfig l.config → IsKnownConfig trees l.config → AreSited l → take_entry turns l.config e ≡ Some k2 → slice_get l.config.threads e.thread ≡ Some state → AreSited (locate_execution sites l k2 e state.execution)
entry_holds trees sites turns l k2 e state c known h taken there =
    by (take_entry turns l.config (entry_of e.thread e.pure None)) refl (sym (ap (λ m. take_entry turns l.config (entry_of e.thread m e.act)) (plus_zero e.pure) ∙ cut_entry turns l.config e.thread e.pure 0 e.act) ∙ taken)
  where
    from : (k1 : Config) (u : Term ℕ) (used : ℕ) → take_entry turns l.config (entry_of e.thread e.pure None) ≡ Some k1 → take_entry turns k1 (entry_of e.thread 0 e.act) ≡ Some k2 → slice_get l.config.threads e.thread ≡ Some (state_of (Running u) used) → Stepped l.config e.thread e.pure u k1
        → AreSited (locate_execution sites l k2 e state.execution)
    from k1 u used q r here (v, m, s, same) =
        let running : state_of (Running u) used ≡ state = cc (sym here ∙ there) in
        let c1 : IsFormedConfig k1 = subst IsFormedIf q (entry_formed turns l.config (entry_of e.thread e.pure None) c) in
        let known1 : IsKnownConfig trees k1 = entry_known trees turns l.config k1 (entry_of e.thread e.pure None) known q in
        let x : Turns turns e.thread k1 0 e.act k2 = turn_by_turn turns k1 k2 (entry_of e.thread 0 e.act) r in
        subst (λ (y : ThreadState). AreSited (locate_execution sites l k2 e y.execution)) running
        (entry_sites trees sites turns l k2 e.thread e.pure used m u v e.act c h here s (subst IsFormedConfig (sym same) c1) (subst (IsKnownConfig trees) (sym same) known1) (subst (λ (y : Config). Turns turns e.thread y 0 e.act k2) (sym same) x))

    by : (o : Option Config) → take_entry turns l.config (entry_of e.thread e.pure None) ≡ o → elim o [ None ↦ None | Some k1 ↦ take_entry turns k1 (entry_of e.thread 0 e.act) ] ≡ Some k2 → AreSited (locate_execution sites l k2 e state.execution)
    by None q r = absurd (cc r)
    by (Some k1) q r =
        let f = from_here turns l.config k1 (entry_of e.thread e.pure None) q in
        from k1 f.0 f.1 q r f.2 (stepped l.config k1 e.thread e.pure f.1 f.0 f.2 f.4)

-- ---- the fold

-- a located configuration whose sites, trails and messages are so
pub record IsSited (trees : List BlockTree) (l : Located) : Type 0 where
  pub formed : IsFormedConfig l.config
  pub known : IsKnownConfig trees l.config
  pub sites : AreSited l

-- a legal entry keeps it
pub entry_sited : (trees : List BlockTree) (sites turns : ℕ) (l : Located) (k : Config) (e : Entry) (state : ThreadState) → IsSited trees l → take_entry turns l.config e ≡ Some k → slice_get l.config.threads e.thread ≡ Some state → IsSited trees (locate_execution sites l k e state.execution)
entry_sited trees sites turns l k e state h q here =
    let same : k ≡ (locate_execution sites l k e state.execution).config = sym (located_is sites l k e state.execution) in
    record {
      formed = subst IsFormedConfig same (subst IsFormedIf q (entry_formed turns l.config e h.formed));
      known = subst (IsKnownConfig trees) same (entry_known trees turns l.config k e h.known q);
      sites = entry_holds trees sites turns l k e state h.formed h.known h.sites q here;
    }

located_sites : (trees : List BlockTree) (sites turns : ℕ) (l l2 : Located) (es : List Entry) → IsSited trees l → locate_from sites turns l es ≡ Some l2 → IsSited trees l2
located_sites trees sites turns l l2 [] h r = let same : l ≡ l2 = cc r in subst (IsSited trees) same h
located_sites trees sites turns l l2 (e ∷ es) h r = by_option (take_entry turns l.config e) refl r (λ l3. located_sites trees sites turns l3 l2 es)
  where
    by_thread : (k : Config) (s : Option ThreadState) → slice_get l.config.threads e.thread ≡ s → take_entry turns l.config e ≡ Some k → rest_from sites turns es (thread_from sites l e k s) ≡ Some l2
        → ((l3 : Located) → IsSited trees l3 → locate_from sites turns l3 es ≡ Some l2 → IsSited trees l2) → IsSited trees l2
    by_thread k None here q x next = absurd (cc x)
    by_thread k (Some state) here q x next = next (locate_execution sites l k e state.execution) (entry_sited trees sites turns l k e state h q here) x

    by_option : (o : Option Config) → take_entry turns l.config e ≡ o → rest_from sites turns es (entry_from sites l e o) ≡ Some l2
        → ((l3 : Located) → IsSited trees l3 → locate_from sites turns l3 es ≡ Some l2 → IsSited trees l2) → IsSited trees l2
    by_option None q x next = absurd (cc x)
    by_option (Some k) q x next = by_thread k (slice_get l.config.threads e.thread) refl q x next

first_length : (k n : ℕ) → length (first_sites k n) ≡ n
first_length k zero = refl
first_length k (suc n) = ap suc (first_length (suc k) n)

writers_length : (n : ℕ) (c : Cell ℕ) → length (replicate n c) ≡ n
writers_length zero c = refl
writers_length (suc n) c = ap suc (writers_length n c)

terms_length : (site : ℕ) (bs : List BlockTree) → length (opening_terms site bs) ≡ length bs
terms_length site [] = refl
terms_length site (b ∷ bs) = ap suc (terms_length (suc site) bs)

one_site : (n : ℕ) → n ≡ 0 → 1 ≡ suc n
one_site n e = omega arith

trails_opening : (P : ℕ → ℕ → Type 0) (k : ℕ) (bs : List BlockTree) → TrailsAre P (map (λ s. s ∷ []) (first_sites k (length bs))) (new_threads (opening_terms k bs))
trails_opening P k [] = tt
trails_opening P k (b ∷ bs) = (subst (Fits P (k ∷ [])) (sym (source_bare (block_term k [] b) (source_block k [] b))) (refl, tt), trails_opening P (suc k) bs)

-- no call is open at the start
none_open : (k n : ℕ) → all_open (map (λ s. s ∷ []) (first_sites k n)) ≡ []
none_open k zero = refl
none_open k (suc n) = none_open (suc k) n

sites_opening : (trees : List BlockTree) → AreSited (located_opening trees)
sites_opening trees = (
  first_length 0 (length trees) ∙ sym (writers_length (length (opening_terms 0 trees)) (WriterCell []) ∙ terms_length 0 trees),
  trails_opening (IsSiteOf (first_sites 0 (length trees))) 0 trees,
  (λ a b. ap (λ (ms : List Message). 0 + sent a b ms) (sym (none_open 0 (length trees)))),
)

pub sited_run : (trees : List BlockTree) (turns : ℕ) (es : List Entry) (l : Located) → located_run trees turns es ≡ Some l → IsSited trees l
sited_run trees turns es l r = located_sites trees (length trees) turns (located_opening trees) l es (record { formed = opening_of_formed trees; known = known_opening trees; sites = sites_opening trees }) r

pub run_balanced : RunBalanced
run_balanced trees turns es l r = (sited_run trees turns es l r).sites.2

pub replay_balanced : ReplayBalanced
replay_balanced trees turns es l r = (
  ap (option_map (with_waiting (length trees) turns)) r,
  (λ a b. by a b (waiting_requests (length trees) turns l 0 l.config.threads)),
)
  where
    added : (x w r p o : ℕ) → x ≡ w + r → r ≡ p + o → x ≡ p + o + w
    added x w r p o e f = omega arith

    by : (a b : ℕ) (ms : List Message) → sent a b (ms ++ l.requests) ≡ sent b a l.replies + sent a b (all_open l.thread_sites) + sent a b ms
    by a b ms = added (sent a b (ms ++ l.requests)) (sent a b ms) (sent a b l.requests) (sent b a l.replies) (sent a b (all_open l.thread_sites)) (sent_more a b ms l.requests) (run_balanced trees turns es l r a b)

-- what holds of a located fold, and says nothing of requests, holds of a located replay
of_replay : (P : Located → Type 0) (trees : List BlockTree) (turns : ℕ) (es : List Entry) (l : Located) → ((x : Located) → located_run trees turns es ≡ Some x → P (with_waiting (length trees) turns x)) → located_replay trees turns es ≡ Some l → P l
of_replay P trees turns es l h r = by (located_run trees turns es) refl r
  where
    by : (o : Option Located) → located_run trees turns es ≡ o → option_map (with_waiting (length trees) turns) o ≡ Some l → P l
    by None q e = absurd (cc e)
    by (Some x) q e = let same : with_waiting (length trees) turns x ≡ l = cc e in subst P same (h x q)

pub methods_at_objects : MethodsAtObjects
methods_at_objects trees turns es l r = of_replay (λ x. TrailsAre (IsSiteOf x.cell_sites) x.thread_sites x.config.threads) trees turns es l (λ x q. (sited_run trees turns es x q).sites.1) r

trails_long : (P : ℕ → ℕ → Type 0) (trs : List (List ℕ)) (ts : List ThreadState) → TrailsAre P trs ts → TrailsFit trs ts
trails_long P [] [] h = tt
trails_long P [] (x ∷ xs) h = absurd h
trails_long P (y ∷ trs) [] h = absurd h
trails_long P (y ∷ trs) (x ∷ xs) h = (h.0.0 ∙ ap suc (execution_long x.execution), trails_long P trs xs h.1)

pub sites_law : SitesLaw
sites_law trees turns es l r =
    of_replay SitesHold trees turns es l (λ x q. let s : AreSited x = (sited_run trees turns es x q).sites in (s.0, trails_long (IsSiteOf x.cell_sites) x.thread_sites x.config.threads s.1)) r
