-- Every configuration that a journal of a program without an unbound name replays to is closed.
use Rattle.std.specs.Prelude.{Bool, List, None, Option, Some, [], false, length, max, not, refl, replicate, slice_get, slice_set, suc, true, zero, ℕ, ◌&&◌, ◌++◌, ◌∷◌, ◌≡◌}
use Rattle.std.proofs.Common.{subst, ap, sym, ◌∙◌, arith, true≢false}
use Rattle.std.proofs.lemmas.Slice.Eq.{bytes_eq-Decides}
use Rattle.obq_base.specs.declared.acts.Act.{Act}
use Rattle.obq_base.specs.Tree.{BlockTree}
use Rattle.obq_model.specs.Terms.{Bytes, Raised, Exn, ExitUp, Value, Closure, Member, Kind, Cloning, Term, Const, Name, Under, Form, Parts, End, Part}
use Rattle.obq_model.specs.Put.{among}
use Rattle.obq_model.specs.Depth.{deepest, deepest_of, depth_in}
use Rattle.obq_model.specs.Reading.{occurs, occurs_in}
use Rattle.obq_model.specs.Store.{WriterCell, same_loc}
use Rattle.obq_model.specs.Step.{no_self, plug, Found, Next, Needs, Done, Uncaught, find, next_of, self_at}
use Rattle.obq_model.specs.Shapes.{IsShaped}
use Rattle.obq_model.specs.Forms.{IsSourceKind, IsSource, AreSource}
use Rattle.obq_model.specs.Config.{Running, Returned, ThreadState, Config}
use Rattle.obq_model.specs.Effect.{Acting, Forking, end_by}
use Rattle.obq_model.specs.Opening.{block_term, opening_terms, new_threads, opening}
use Rattle.obq_model.proofs.Among.{left_of, right_of}
use Rattle.obq_model.proofs.Closed.{closed, flat}
use Rattle.obq_laws.specs.Closing.{Bound, no_name, within, IsClosed, AreClosed, IsClosedValue, IsClosedKind, AreClosedCells, IsClosedExecution, AreClosedThreads, IsClosedConfig, NoneUnbound, ClosedReplay, NoNameNext}
use Rattle.obq_laws.specs.Shaping.{IsShapedConfig, IsShapedIf}
use Rattle.obq_laws.specs.Turns.{state_of, CanGo, Turn, Steps, Acts, Forks, Ends, Raises, alone}
use Rattle.obq_laws.proofs.ClosedStep.{IsClosedFound, closed_find, closed_plug, in_hole}
use Rattle.obq_laws.proofs.ClosedActs.{ClosedOutcome, closed_perform}
use Rattle.obq_laws.proofs.ShapedStep.{ShapedFound, shaped_find}
use Rattle.obq_laws.proofs.ShapedOpening.{opening_shaped}
use Rattle.obq_laws.proofs.ShapedReplay.{ShapedState, thread_at, entry_shaped, shaped_opening}
use Rattle.obq_laws.proofs.Turns.{kept_by_replay, turn_taken}

-- ---- threads

abbrev IsClosedState : Option ThreadState → Type 0
IsClosedState None = Unit {0}
IsClosedState (Some s) = IsClosedExecution s.execution

closed_thread : (ts : List ThreadState) (t : ℕ) → AreClosedThreads ts → IsClosedState (slice_get ts t)
closed_thread [] t h = tt
closed_thread (s ∷ ss) zero h = h.0
closed_thread (s ∷ ss) (suc t) h = closed_thread ss t h.1

set_closed : (ts : List ThreadState) (t : ℕ) (s : ThreadState) → AreClosedThreads ts → IsClosedExecution s.execution → AreClosedThreads (slice_set ts t s)
set_closed [] t s h i = tt
set_closed (x ∷ xs) zero s h i = (i, h.1)
set_closed (x ∷ xs) (suc t) s h i = (h.0, set_closed xs t s h.1 i)

add_closed : (ts : List ThreadState) (s : ThreadState) → AreClosedThreads ts → IsClosedExecution s.execution → AreClosedThreads (ts ++ s ∷ [])
add_closed [] s h i = (i, tt)
add_closed (x ∷ xs) s h i = (h.0, add_closed xs s h.1 i)

-- ---- turns

next_closed : (x : Found ℕ) (v : Term ℕ) → IsClosedFound x → next_of x ≡ Some v → IsClosed no_name v
next_closed (Next u) v h e = let same : u ≡ v = cc e in subst (IsClosed no_name) same h
next_closed (Needs op fs) v h e = absurd (cc e)
next_closed (Done w) v h e = absurd (cc e)
next_closed (Uncaught r) v h e = absurd (cc e)

-- the term of a thread that can go
shape_of : (turns : ℕ) (k : Config) (t : ℕ) (u : Term ℕ) (used : ℕ) → IsShapedConfig k → CanGo turns k t u used → IsShaped u
shape_of turns k t u used s g = subst ShapedState g.is_there (thread_at k.threads t s.1)

found_next : (turns : ℕ) (k : Config) (t : ℕ) (u : Term ℕ) (used : ℕ) → IsShapedConfig k → IsClosedConfig k → CanGo turns k t u used → IsClosedFound (find same_loc 0 no_self u)
found_next turns k t u used s c g = closed_find same_loc 0 no_self u (shape_of turns k t u used s g) (subst IsClosedState g.is_there (closed_thread k.threads t c.1))

closed_turn : (turns : ℕ) (k k2 : Config) (t : ℕ) (a : Option Act) → IsShapedConfig k → IsClosedConfig k → Turn turns k t a k2 → IsClosedConfig k2
closed_turn turns k _ t _ s c (Steps {u} {used} {v} g e) = (c.0, set_closed k.threads t (state_of (Running v) (suc used)) c.1 (next_closed (find same_loc 0 no_self u) v (found_next turns k t u used s c g) e))
closed_turn turns k _ t _ s c (Acts {u} {used} {op} {fs} {kind} {loc} {st} {focus} g f p) =
    let next : IsClosedFound (Needs op fs) = subst IsClosedFound f (found_next turns k t u used s c g) in
    let shaped : ShapedFound (Needs op fs) = subst ShapedFound f (shaped_find same_loc 0 no_self u (shape_of turns k t u used s g)) in
    let out : ClosedOutcome (Acting kind loc st focus) = subst ClosedOutcome p (closed_perform k t (self_at no_self fs) op c shaped.0 next.0) in
    (out.0, set_closed k.threads t (state_of (Running (plug fs focus)) (suc used)) c.1 (closed_plug fs focus next.1 out.1))
closed_turn turns k _ t _ s c (Forks {u} {used} {op} {fs} {loc} {new} {focus} g f p) =
    let next : IsClosedFound (Needs op fs) = subst IsClosedFound f (found_next turns k t u used s c g) in
    let shaped : ShapedFound (Needs op fs) = subst ShapedFound f (shaped_find same_loc 0 no_self u (shape_of turns k t u used s g)) in
    let out : ClosedOutcome (Forking loc new focus) = subst ClosedOutcome p (closed_perform k t (self_at no_self fs) op c shaped.0 next.0) in
    let state : ThreadState = state_of (Running (plug fs focus)) (suc used) in
    (c.0, add_closed (slice_set k.threads t state) (state_of (Running new) 0) (set_closed k.threads t state c.1 (closed_plug fs focus next.1 out.1)) out.0)
closed_turn turns k _ t _ s c (Ends {u} {used} {v} g f) =
    let next : IsClosedFound (Done v) = subst IsClosedFound f (found_next turns k t u used s c g) in
    (c.0, set_closed k.threads t (state_of (Returned v) (suc used)) c.1 next)
closed_turn turns k _ t _ s c (Raises {u} {used} {r} g f) = (c.0, set_closed k.threads t (state_of (end_by r) (suc used)) c.1 (by r))
  where
    by : (r : Raised) → IsClosedExecution (end_by r)
    by (Exn e) = tt
    by ExitUp = tt

-- rightly shaped and closed
abbrev IsShapedClosed : Config → Type 0
IsShapedClosed k = IsShapedConfig k × IsClosedConfig k

both_turn : (turns : ℕ) (k k2 : Config) (t : ℕ) (a : Option Act) → IsShapedClosed k → Turn turns k t a k2 → IsShapedClosed k2
both_turn turns k k2 t a c x = (subst IsShapedIf (turn_taken turns k k2 t a x) (entry_shaped turns k (alone t a) c.0), closed_turn turns k k2 t a c.0 c.1 x)

-- ---- the opening

no_closure : {R : Type 0} (v : Value R) → depth_in v ≡ 0 → IsClosedValue v
no_closure (Closure params body) d = absurd (omega arith)
no_closure (Member names group i) d = absurd (omega arith)
no_closure v d = tt

no_clone : {R : Type 0} (k : Kind R) → IsSourceKind k → IsClosedKind k
no_clone (Cloning flags copied rest) h = absurd h
no_clone k h = tt

-- what occurs under names is bound by them or occurs outside
bound_within : {R : Type 0} (names : List Bytes) (f : Bound) (t : Term R) → ((x : Bytes) → occurs x (Under names t) ≡ true → f x ≡ true) → (x : Bytes) → occurs x t ≡ true → within names f x ≡ true
bound_within {R} names f t c x h = by (among x names) refl
  where
    by : (b : Bool) → among x names ≡ b → within names f x ≡ true
    by true e = left_of (among x names) (f x) e
    by false e = right_of (among x names) (f x) (c x (ap (λ b. not b && occurs x t) e ∙ h))

left_zero : (m n : ℕ) → max m n ≡ 0 → m ≡ 0
left_zero m n e = omega arith

right_zero : (m n : ℕ) → max m n ≡ 0 → n ≡ 0
right_zero m n e = omega arith

-- a term of a source in which no closure stands, and whose names are bound
mutual
  bound_term : {R : Type 0} (f : Bound) (t : Term R) → IsSource t → deepest t ≡ 0 → ((x : Bytes) → occurs x t ≡ true → f x ≡ true) → IsClosed f t
  bound_term f (Const v) s d c = no_closure v d
  bound_term f (Name y) s d c = c y ((bytes_eq-Decides y y).1 refl)
  bound_term f (Under names t) s d c = bound_term (within names f) t s d (λ x h. bound_within names f t c x h)
  bound_term f (Form k parts) s d c = (no_clone k s.0, bound_parts f parts s.1 d c)

  bound_parts : {R : Type 0} (f : Bound) (parts : Parts R) → AreSource parts → deepest_of parts ≡ 0 → ((x : Bytes) → occurs_in x parts ≡ true → f x ≡ true) → AreClosed f parts
  bound_parts f End s d c = tt
  bound_parts f (Part t parts) s d c = (
    bound_term f t s.0 (left_zero (deepest t) (deepest_of parts) d) (λ x h. c x (left_of (occurs x t) (occurs_in x parts) h)),
    bound_parts f parts s.1 (right_zero (deepest t) (deepest_of parts) d) (λ x h. c x (right_of (occurs x t) (occurs_in x parts) h)),
  )

opening_threads : (site : ℕ) (bs : List BlockTree) → NoneUnbound bs → AreClosedThreads (new_threads (opening_terms site bs))
opening_threads site [] n = tt
opening_threads site (b ∷ bs) n =
    (bound_term no_name (block_term site [] b) (opening_shaped site [] b).1 (flat site b n.0) (λ x h. absurd (true≢false (sym h ∙ closed site b n.0 x))), opening_threads (suc site) bs n.1)

opening_writers : (n : ℕ) → AreClosedCells (replicate n (WriterCell []))
opening_writers zero = tt
opening_writers (suc n) = (tt, opening_writers n)

closed_opening : (trees : List BlockTree) → NoneUnbound trees → IsShapedClosed (opening trees)
closed_opening trees n = (shaped_opening trees, ((opening_writers (length (opening_terms 0 trees)), tt), opening_threads 0 trees n))

pub closed_replay : ClosedReplay
closed_replay trees turns es k n r = (kept_by_replay turns IsShapedClosed (λ k1 k2 t a p x. both_turn turns k1 k2 t a p x) trees (closed_opening trees n) es k r).1

pub no_name_next : NoNameNext
no_name_next trees turns es k t s fs x n r here e =
    let state : IsClosedExecution s.execution = subst IsClosedState here (closed_thread k.threads t (closed_replay trees turns es k n r).1) in
    let u : IsClosedExecution (Running (plug fs (Name x))) = subst IsClosedExecution e state in
    absurd (true≢false (sym (in_hole fs (Name x) u)))
