-- A plain machine that runs a journal, with its sites beside it.
use Rattle.std.specs.Prelude.{Bool, List, None, Option, Some, [], if◌then◌else◌, length, nat_lt, option_map, slice_get, suc, zero, ℕ, ◌∷◌}
use Rattle.obq_base.specs.declared.acts.Act.{Act}
use Rattle.obq_base.specs.declared.acts.Entry.{Entry}
use Rattle.obq_base.specs.Tree.{BlockTree}
use Rattle.obq_links.specs.Sited.{Sited, Trailed, acted, asked, numbers_of, site_in, trail_in, turned_at, with_replies, with_trail}
use Rattle.obq_model.specs.Config.{Config, Execution, Failed, Returned, Running, ThreadState}
use Rattle.obq_model.specs.Effect.{perform}
use Rattle.obq_model.specs.Located.{Place, activations_of, place_in, place_of, site_here, thread_activations}
use Rattle.obq_model.specs.Opening.{opening}
use Rattle.obq_model.specs.Replay.{after_pure, take_entry}
use Rattle.obq_model.specs.Step.{Done, Found, Needs, Next, Uncaught, find, no_self, pure, self_at}
use Rattle.obq_model.specs.Store.{same_loc}
use Rattle.obq_model.specs.Terms.{Term}
use Rattle.obq_plain.specs.Ahead.{act_of}
use Rattle.obq_plain.specs.PlainStates.{PlainState}

-- this, where the test holds
abbrev pub when : {A : Type 0} → Bool → A → Option A
when b x = if b then Some x else None

-- the term of a thread that runs
abbrev pub term_of : Execution → Option (Term ℕ)
term_of (Running t) = Some t
term_of (Returned v) = None
term_of (Failed e) = None

abbrev pub running_term : Option ThreadState → Option (Term ℕ)
running_term None = None
running_term (Some state) = term_of state.execution

-- what a program opens as, block k at site k
abbrev pub opened_plain : List BlockTree → ℕ → PlainState
opened_plain trees turns = record { config = opening trees; sites = length trees; turns = turns }

-- ---- an entry

-- n pure steps of a term: a closure that is called is where its caller is
abbrev pub steps_on : ℕ → Term ℕ → Trailed → Trailed
steps_on zero t tr = tr
steps_on (suc n) t tr = elim (pure same_loc t) [ None ↦ tr | Some u ↦ steps_on n u (turned_at (site_here tr.0) (activations_of t) (activations_of u) tr) ]

-- a machine with its sites
abbrev pub Followed : Type 0
Followed = PlainState × Sited

-- the machine behind an entry; none where it isn't legal
abbrev pub taken : PlainState → Entry → Option PlainState
taken p e = option_map (λ k. record p { config = k }) (take_entry p.turns p.config e)

-- after an entry without an act, whose thread has these sites behind its pure steps
abbrev pub kept_behind : PlainState → Sited → Entry → List ℕ → Option Followed
kept_behind p s e trail = option_map (λ q. (q, with_trail e.thread trail s)) (taken p e)

-- the sites behind an act of thread t, which leads from one configuration to the other
abbrev pub sites_behind : Config → Config → ℕ → Term ℕ → List ℕ → Sited → Sited
sites_behind k k2 t u trail s =
    acted t (site_in s (site_here trail) (place_in (find same_loc 0 no_self u))) (numbers_of k (activations_of u)) (numbers_of k2 (thread_activations k2 t)) trail s

-- after an entry with an act, whose thread has this term and these sites behind its pure steps
abbrev pub acted_behind : PlainState → Sited → Entry → Term ℕ → List ℕ → Option Followed
acted_behind p s e u trail = option_map (λ q. (q, sites_behind p.config q.config e.thread u trail s)) (taken p e)

-- after an entry, whose thread has this term and these sites behind its pure steps
abbrev pub followed_behind : PlainState → Sited → Entry → Option Act → Term ℕ → List ℕ → Option Followed
followed_behind p s e None u trail = kept_behind p s e trail
followed_behind p s e (Some a) u trail = acted_behind p s e u trail

-- after an entry whose thread has this term before it
abbrev pub followed_from : PlainState → Sited → Entry → Term ℕ → Option Followed
followed_from p s e t =
    let tr : Trailed = steps_on e.pure t (trail_in s e.thread, s.replies) in
    elim (after_pure e.pure t) [ None ↦ None | Some u ↦ followed_behind p (with_replies tr.1 s) e e.act u tr.0 ]

-- after an entry; none where it isn't legal
abbrev pub followed : PlainState → Sited → Entry → Option Followed
followed p s e = elim (running_term (slice_get p.config.threads e.thread)) [ None ↦ None | Some t ↦ followed_from p s e t ]

-- after the entries of a journal
abbrev pub all_followed : PlainState → Sited → List Entry → Option Followed
all_followed p s [] = Some (p, s)
all_followed p s (e ∷ es) = elim (followed p s e) [ None ↦ None | Some q ↦ all_followed q.0 q.1 es ]

-- ---- at the end

-- the place where a thread waits in whose term this stands next
abbrev pub place_waiting : Config → ℕ → Found ℕ → Option Place
place_waiting k t (Next u) = None
place_waiting k t (Needs op fs) = elim (act_of (perform k t (self_at no_self fs) op)) [ None ↦ Some (place_of op) | Some a ↦ None ]
place_waiting k t (Done v) = None
place_waiting k t (Uncaught r) = None

-- the place where a thread waits that has a turn left
abbrev pub waits_at : ℕ → Config → ℕ → ℕ → Execution → Option Place
waits_at turns k t used (Running u) = if nat_lt used turns then place_waiting k t (find same_loc 0 no_self u) else None
waits_at turns k t used (Returned v) = None
waits_at turns k t used (Failed e) = None

-- with the request of a thread that waits
abbrev pub asked_at : ℕ → Option Place → Sited → Sited
asked_at t None s = s
asked_at t (Some p) s = asked t p s

-- with the requests of these threads, the first of which is thread t
abbrev pub all_asked : ℕ → Config → ℕ → List ThreadState → Sited → Sited
all_asked turns k t [] s = s
all_asked turns k t (state ∷ states) s = asked_at t (waits_at turns k t state.used state.execution) (all_asked turns k (suc t) states s)
