-- The requests that wait at rest are those that the located replay adds at its end.
use Rattle.std.specs.Prelude.{Bool, true, false, if◌then◌else◌, List, Option, Some, None, [], ◌∷◌, ℕ, suc, length, nat_lt, refl, slice_get, ◌+◌, ◌<◌, ◌≡◌, ◌⊎◌}
use Rattle.std.proofs.Common.{inl, inr, ap, sym, ◌∙◌, subst, arith}
use Rattle.std.proofs.lemmas.Bool.Decides.{nat_tests}
use Rattle.std.proofs.lemmas.Option.{get_or_from_slice_get}
use Rattle.obq_base.specs.Tree.{BlockTree}
use Rattle.obq_model.specs.Terms.{Term}
use Rattle.obq_model.specs.Step.{Self, Operation, self_at}
use Rattle.obq_model.specs.Config.{Execution, Running, ThreadState, Config}
use Rattle.obq_model.specs.Effect.{Effect, effect}
use Rattle.obq_model.specs.Effect as e
use Rattle.obq_model.specs.Located.{Located, Message, message, sent, located_run, place_in, place_of, site_at, site_here, waiting_request, waiting_requests}
use Rattle.obq_model.specs.Maps.{map_operation}
use Rattle.obq_laws.proofs.Trails.{no_message, sent_more}
use Rattle.obq_stands.specs.World.{Ref, PendingCall, Slot, Packet, Request, Reply, Parked, Ending, ByValue, ByException, World}
use Rattle.obq_stands.specs.Stands.{Link, Carries, Place, Nowhere, Absent, At, InLine, WaitsAt, EndedAt, HasPlace, IsIn, IsSomewhere, ending_of, StandsAt, StandsFor}
use Rattle.obq_stands.specs.Events.{OffHold, Run, windows, world_at}
use Rattle.obq_stands.specs.Over.{Waits, OnCellWaits, RetakeWaits, JoinWaits, ImportWaits}
use Rattle.obq_stands.specs.CellSites.{AreAt}
use Rattle.obq_stands.specs.AtSites.{AreTrails}
use Rattle.obq_stands.specs.Begun.{AreBegun}
use Rattle.obq_stands.specs.Counts.{sum_to, is_request, parked_in, left_at, Tally, no_tally, tally_run, IsTriedAt, IsHeldAt, located_home, IsAtRest, RestCountsAsLocated}
use Rattle.obq_stands.proofs.ActiveLinks.{AreActive, every_run_active, chain_here}
use Rattle.obq_stands.proofs.CellsThere.{config_of}
use Rattle.obq_stands.proofs.Counts.{sum_same, gain, gain_other, parked_gain, every_run_counted, rest_counted}
use Rattle.obq_stands.proofs.DoneSites.{place_cell, cell_site, wire_place}
use Rattle.obq_stands.proofs.Entered.{every_run_begun}
use Rattle.obq_stands.proofs.EntryTrails.{act_site}
use Rattle.obq_stands.proofs.Memory.{reading, reading_agrees}
use Rattle.obq_stands.proofs.Opening.{every_run_stands}
use Rattle.obq_stands.proofs.Over.{segment_effect, request_effect}
use Rattle.obq_stands.proofs.ReplyCounts.{trail_of}
use Rattle.obq_stands.proofs.ReplyEvents.{sum_first, run_counts}
use Rattle.obq_stands.proofs.RequestCounts.{sent_gain, run_requests}
use Rattle.obq_stands.proofs.RequestTrails.{requesting, every_run_at_sites}
use Rattle.obq_stands.proofs.SitedTrails.{run_at, here_is, threads_of}
use Rattle.obq_stands.proofs.Turns.{state_of}
use Rattle.obq_stands.proofs.Update.{same_or}

-- where an operation is tried
tried_site : (trees : List BlockTree) (turns : ℕ) (w : World) (inv : StandsFor trees turns w) (l : Located) (t site here : ℕ) (s : Self Ref) (op : Operation Ref) → AreAt w.memory l.cell_sites → (waits : Waits w.memory w.ended t s op) → IsTriedAt (length trees) (located_home l) site waits
    → site_at (length trees) l here (place_of (map_operation (reading w.memory 0) op)) ≡ site
tried_site trees turns w inv l t site here s op at (OnCellWaits _ r x is there row) tried = ap (site_at (length trees) l here) (place_cell (reading w.memory 0) op r is) ∙ cell_site trees turns w inv l here r x at there ∙ tried
tried_site trees turns w inv l t site here s _ at (RetakeWaits o c guard x y is there row) tried = cell_site trees turns w inv l here o x at is ∙ tried
tried_site trees turns w inv l t site here s _ at (JoinWaits u none) tried = tried
tried_site trees turns w inv l t site here s _ at (ImportWaits x engine row) tried = tried

-- ---- the requests of one thread

abbrev waiting_at : ℕ → ℕ → Located → ℕ → Option ThreadState → List Message
waiting_at sites turns l t None = []
waiting_at sites turns l t (Some s) = waiting_request sites turns l t s s.execution

waits_request : (sites turns : ℕ) (l : Located) (t used : ℕ) (u : Term ℕ) → effect l.config t ≡ e.Waits → nat_lt used turns ≡ true → waiting_at sites turns l t (Some (state_of (Running u) used)) ≡ message (site_here (trail_of l t)) (act_site sites l t 0 u u)
waits_request sites turns l t used u waits left =
    ap (λ (b : Bool). if b then elim (effect l.config t) [ e.Does a k ↦ [] | e.Waits ↦ message (site_here (trail_of l t)) (act_site sites l t 0 u u) | e.Nothing ↦ [] ] else []) left
    ∙ ap (λ (z : Effect). elim z as (λ k. List Message) [ e.Does a k ↦ [] | e.Waits ↦ message (site_here (trail_of l t)) (act_site sites l t 0 u u) | e.Nothing ↦ [] ]) waits

spent_request : (sites turns : ℕ) (l : Located) (t used : ℕ) (u : Term ℕ) → nat_lt used turns ≡ false → waiting_at sites turns l t (Some (state_of (Running u) used)) ≡ []
spent_request sites turns l t used u left =
    ap (λ (b : Bool). if b then elim (effect l.config t) [ e.Does a k ↦ [] | e.Waits ↦ message (site_here (trail_of l t)) (act_site sites l t 0 u u) | e.Nothing ↦ [] ] else []) left

ended_request : (sites turns : ℕ) (l : Located) (t used : ℕ) (f : Ref → ℕ) (x : Ending) → waiting_at sites turns l t (Some (state_of (ending_of f x) used)) ≡ []
ended_request sites turns l t used f (ByValue v) = refl
ended_request sites turns l t used f (ByException y) = refl

below_true : (m n : ℕ) → m < n → nat_lt m n ≡ true
below_true m n l = grind (arith, nat_tests)

-- ---- all of them

all_waiting : (a b sites turns : ℕ) (l : Located) (k : ℕ) (ss : List ThreadState) → sent a b (waiting_requests sites turns l k ss) ≡ sum_to (length ss) (λ t. sent a b (waiting_at sites turns l (k + t) (slice_get ss t)))
all_waiting a b sites turns l k [] = refl
all_waiting a b sites turns l k (s ∷ ss) =
    sent_more a b (waiting_request sites turns l k s s.execution) (waiting_requests sites turns l (suc k) ss)
    ∙ ap (λ n. sent a b (waiting_request sites turns l n s s.execution) + sent a b (waiting_requests sites turns l (suc k) ss)) (plus_none k)
    ∙ ap (λ n. sent a b (waiting_at sites turns l (k + 0) (Some s)) + n) (all_waiting a b sites turns l (suc k) ss ∙ sum_same (length ss) (λ t. sent a b (waiting_at sites turns l (k + suc t) (slice_get ss t))) (λ t. sent a b (waiting_at sites turns l (suc k + t) (slice_get ss t))) (λ t m. ap (λ n. sent a b (waiting_at sites turns l n (slice_get ss t))) (one_on k t)))
    ∙ sym (sum_first (length ss) (λ t. sent a b (waiting_at sites turns l (k + t) (slice_get (s ∷ ss) t))))
  where
    plus_none : (n : ℕ) → n ≡ n + 0
    plus_none n = omega arith

    one_on : (m n : ℕ) → suc m + n ≡ m + suc n
    one_on m n = omega arith

-- ---- each thread

-- nothing waits of a thread at another place
none_parked : (trees : List BlockTree) (turns : ℕ) (w : World) (inv : StandsFor trees turns w) (a b t : ℕ) (y : Place) → inv.stands.place t ≡ y → ((s : ℕ) (x : Parked) → y ≡ WaitsAt s x → ⊥) → parked_in is_request a (w.waiting b t) ≡ 0
none_parked trees turns w inv a b t y at ne = by (w.waiting b t) refl
  where
    by : (o : Option Parked) → w.waiting b t ≡ o → parked_in is_request a o ≡ 0
    by None q = refl
    by (Some x) q = absurd (ne b x (sym at ∙ inv.stands.placed.waits b t x q))

-- a running segment has sent none
runs_waiting : (trees : List BlockTree) (turns : ℕ) (w : World) (inv : StandsFor trees turns w) (l : Located) (s t : ℕ) (slot : Slot) → Run turns (world_at (windows 0 trees)) w → located_run trees turns w.journal ≡ Some l → AreAt w.memory l.cell_sites → AreTrails trees turns w inv l → IsAtRest (length trees) turns w l
    → w.running s t ≡ Some slot → (r : StandsAt turns w.memory.heap w.pending t (slice_get inv.config.threads t) (At s slot)) → waiting_at (length trees) turns l t (slice_get inv.config.threads t) ≡ []
runs_waiting trees turns w inv l s t slot run r at h rest is goes = ap (waiting_at (length trees) turns l t) goes.here ∙ by (nat_lt slot.used turns) refl
  where
    by : (b : Bool) → nat_lt slot.used turns ≡ b → waiting_at (length trees) turns l t (Some (state_of (Running goes.term) slot.used)) ≡ []
    by false left = spent_request (length trees) turns l t slot.used goes.term left
    by true left =
        let q = rest.runs s t slot is left in
        let ls : List Link = goes.reads.links in
        let k = run_at trees turns w inv l s t 0 slot.segment.depth slot slot.segment.window slot.segment.self ls run r h is refl goes.reads.chained in
        let same : k.before ≡ goes.term = running_is (some_one (slice_get inv.config.threads t) (state_of (Running k.before) slot.used) (state_of (Running goes.term) slot.used) k.here goes.here) in
        let behind : k.before ≡ k.behind = let f = k.steps in cc f in
        let here : site_here (trail_of l t) ≡ s = here_is trees turns w inv l s t 0 slot slot.segment.window ls q.0 q.1 q.2 k in
        let there : act_site (length trees) l t 0 goes.term goes.term ≡ s =
        ap (λ u. act_site (length trees) l t 0 u u) (sym same ∙ behind) ∙ ap (λ z. site_at (length trees) l (site_here (trail_of l t)) (place_in z)) (k.found q.0 q.1 q.2).1
        ∙ tried_site trees turns w inv l t s (site_here (trail_of l t)) (self_at slot.segment.self q.1) q.0 at q.3.0 q.3.1 in
        let waits : effect l.config t ≡ e.Waits = ap (λ (c : Config). effect c t) (sym (config_of trees turns w l inv r)) ∙ segment_effect turns w inv.config inv.stands t slot q.0 q.1 goes q.2 q.3.0 in
        waits_request (length trees) turns l t slot.used goes.term waits left ∙ ap (λ z. message z (act_site (length trees) l t 0 goes.term goes.term)) here ∙ ap (message s) there ∙ no_message s
      where
        some_one : {X : Type 0} (o : Option X) (x y : X) → o ≡ Some x → o ≡ Some y → x ≡ y
        some_one o x y f g = cc (f, g)

        term_of : Term ℕ → Execution → Term ℕ
        term_of d (Running v) = v
        term_of d z = d

        running_is : {v z : Term ℕ} {used : ℕ} → state_of (Running v) used ≡ state_of (Running z) used → v ≡ z
        running_is {v = v} q = ap (λ (y : ThreadState). term_of v y.execution) q

-- a request that is held has been sent
held_waiting : (trees : List BlockTree) (turns : ℕ) (w : World) (inv : StandsFor trees turns w) (l : Located) (t a b k used depth : ℕ) (self : Self Ref) (op : Operation Ref) → AreActive w → AreBegun w → located_run trees turns w.journal ≡ Some l → AreAt w.memory l.cell_sites → AreTrails trees turns w inv l
    → w.waiting b t ≡ Some (record { from = a; packet = Request t k used depth self op }) → Carries turns w.memory.heap w.pending t (slice_get inv.config.threads t) a b (Request t k used depth self op) → IsHeldAt (length trees) (located_home l) b w.memory w.ended (Request t k used depth self op)
    → waiting_at (length trees) turns l t (slice_get inv.config.threads t) ≡ message a b
held_waiting trees turns w inv l t a b k used depth self op active begun r at h is carries held =
    let q = requesting trees turns w _ inv l a b t k used depth self op r h (OffHold is) in
    let f0 : Ref → ℕ = reading w.memory 0 in
    let here : site_here (trail_of l t) ≡ a = ap site_here (get_or_from_slice_get l.thread_sites t q.trail [] q.at ∙ q.is depth self (q.link ∷ q.links) q.chained)
    ∙ chain_here w t depth 0 self (Some (record { site = a; number = k })) q.link q.links active begun q.chained ∙ ap (λ (z : PendingCall). z.site) (sym q.chained.0) in
    let there : act_site (length trees) l t 0 q.term q.term ≡ b =
    ap (λ z. site_at (length trees) l (site_here (trail_of l t)) (place_in z)) q.found
    ∙ ap (λ z. site_at (length trees) l (site_here (trail_of l t)) (place_of z)) q.reads
    ∙ ap (site_at (length trees) l (site_here (trail_of l t))) (sym (wire_place f0 q.link.op))
    ∙ ap (λ z. site_at (length trees) l (site_here (trail_of l t)) (place_of (map_operation f0 z))) q.asks
    ∙ tried_site trees turns w inv l t b (site_here (trail_of l t)) self op at held.1.0 held.1.1 in
    let waits : effect l.config t ≡ e.Waits = ap (λ (c : Config). effect c t) (sym (config_of trees turns w l inv r)) ∙ request_effect turns w inv.config inv.stands t a b k used depth self op carries held.0 held.1.0 in
    ap (waiting_at (length trees) turns l t) q.here ∙ waits_request (length trees) turns l t used q.term waits (below_true used turns q.few)
    ∙ ap (λ z. message z (act_site (length trees) l t 0 q.term q.term)) here ∙ ap (message a) there

-- what a thread has sent and waits for is counted so
thread_waiting : (trees : List BlockTree) (turns : ℕ) (w : World) (inv : StandsFor trees turns w) (l : Located) (a b t : ℕ) → (a ≡ b → ⊥) → Run turns (world_at (windows 0 trees)) w → AreActive w → AreBegun w → located_run trees turns w.journal ≡ Some l → AreAt w.memory l.cell_sites → AreTrails trees turns w inv l
    → IsAtRest (length trees) turns w l → (y : Place) → inv.stands.place t ≡ y → IsSomewhere y → HasPlace w.running w.waiting w.ended w.lines t y → StandsAt turns w.memory.heap w.pending t (slice_get inv.config.threads t) y
    → sent a b (waiting_at (length trees) turns l t (slice_get inv.config.threads t)) ≡ parked_in is_request a (w.waiting b t)
thread_waiting trees turns w inv l a b t apart run active begun r at h rest Nowhere p some has st = absurd some
thread_waiting trees turns w inv l a b t apart run active begun r at h rest Absent p some has st =
    ap (λ o. sent a b (waiting_at (length trees) turns l t o)) st ∙ sym (none_parked trees turns w inv a b t Absent p (λ s x q. absurd (cc q)))
thread_waiting trees turns w inv l a b t apart run active begun r at h rest (At s slot) p some has st =
    ap (sent a b) (runs_waiting trees turns w inv l s t slot run r at h rest has st) ∙ sym (none_parked trees turns w inv a b t (At s slot) p (λ z x q. absurd (cc q)))
thread_waiting trees turns w inv l a b t apart run active begun r at h rest (InLine c d q) p some has st = absurd (subst (IsIn q) (rest.lines c d) has.1)
thread_waiting trees turns w inv l a b t apart run active begun r at h rest (WaitsAt d x) p some has st = by x.packet st (rest.waits d t x has) refl
  where
    other : (q : Packet) → w.waiting d t ≡ Some (record { from = x.from; packet = q }) → (is_request q ≡ true) → parked_in is_request a (w.waiting b t) ≡ gain true a b x.from d
    other q is asks = by_site (same_or b d)
      where
        elsewhere : (b ≡ d → ⊥) → (o : Option Parked) → w.waiting b t ≡ o → parked_in is_request a o ≡ 0
        elsewhere ne None e = refl
        elsewhere ne (Some z) e = absurd (ne (same_site (sym (inv.stands.placed.waits b t z e) ∙ inv.stands.placed.waits d t (record { from = x.from; packet = q }) is)))
          where
            site_in : Place → ℕ
            site_in (WaitsAt n k) = n
            site_in k = 0

            same_site : {m n : ℕ} {u v : Parked} → WaitsAt m u ≡ WaitsAt n v → m ≡ n
            same_site f = ap site_in f

        by_site : (b ≡ d) ⊎ (b ≡ d → ⊥) → parked_in is_request a (w.waiting b t) ≡ gain true a b x.from d
        by_site (inl e) = ap (λ z. parked_in is_request a (w.waiting z t)) e ∙ ap (parked_in is_request a) is ∙ parked_gain is_request x.from d a b q e ∙ ap (λ z. gain z a b x.from d) asks
        by_site (inr ne) = elsewhere ne (w.waiting b t) refl ∙ sym (gain_other true a b x.from d (λ _ f. ne f))

    by : (q : Packet) → Carries turns w.memory.heap w.pending t (slice_get inv.config.threads t) x.from d q → IsHeldAt (length trees) (located_home l) d w.memory w.ended q → x.packet ≡ q → sent a b (waiting_at (length trees) turns l t (slice_get inv.config.threads t)) ≡ parked_in is_request a (w.waiting b t)
    by (Request t2 k used depth self op) c held e =
        let own : Request t2 k used depth self op ≡ Request t k used depth self op = ap (λ n. Request n k used depth self op) c.0 in
        let is : w.waiting d t ≡ Some (record { from = x.from; packet = Request t k used depth self op }) = has ∙ ap (λ z. Some (record { from = x.from; packet = z })) (e ∙ own) in
        ap (sent a b) (held_waiting trees turns w inv l t x.from d k used depth self op active begun r at h is (refl, c.1, c.2) (subst (IsHeldAt (length trees) (located_home l) d w.memory w.ended) own held))
        ∙ sent_gain a b x.from d apart ∙ sym (other (Request t k used depth self op) is refl)
    by (Reply t2 k used o) c held e = absurd held
thread_waiting trees turns w inv l a b t apart run active begun r at h rest (EndedAt s x) p some has st =
    let f0 : Ref → ℕ = reading w.memory 0 in
    let ended : st.execution ≡ ending_of f0 x = st.same f0 (reading_agrees w.memory inv.config.store inv.stands.memory 0) in
    ap (λ o. sent a b (waiting_at (length trees) turns l t o)) (st.here ∙ ap (λ z. Some (state_of z st.used)) ended) ∙ ap (sent a b) (ended_request (length trees) turns l t st.used f0 x) ∙ sym (none_parked trees turns w inv a b t (EndedAt s x) p (λ z k q. absurd (cc q)))

pub rest_counts_as_located : RestCountsAsLocated
rest_counts_as_located trees turns w l run sited r rest a b apart =
    let inv = every_run_stands trees turns w run in
    let z : Tally = tally_run run no_tally in
    let sites = every_run_at_sites trees turns w inv l run sited r in
    let ts : List ThreadState = l.config.threads in
    let config : inv.config ≡ l.config = config_of trees turns w l inv r in
    let each : (t : ℕ) → t < length ts → sent a b (waiting_at (length trees) turns l (0 + t) (slice_get ts t)) ≡ parked_in is_request a (w.waiting b t) = λ t k.
    ap (λ n. sent a b (waiting_at (length trees) turns l n (slice_get ts t))) (none_plus t) ∙ ap (λ (c : Config). sent a b (waiting_at (length trees) turns l t (slice_get c.threads t))) (sym config)
    ∙ thread_waiting trees turns w inv l a b t apart run (every_run_active trees turns w run sited) (every_run_begun trees turns w run) r sites.0 sites.1 rest (inv.stands.place t) refl (inv.stands.settled t) (inv.stands.placed.back t) (inv.stands.threads t) in
    let waiting : sent a b (waiting_requests (length trees) turns l 0 ts) ≡ sum_to w.threads (λ t. parked_in is_request a (w.waiting b t)) =
    all_waiting a b (length trees) turns l 0 ts ∙ sym (sum_same (length ts) (λ t. sent a b (waiting_at (length trees) turns l (0 + t) (slice_get ts t))) (λ t. parked_in is_request a (w.waiting b t)) (λ t k. sym (each t k)))
    ∙ ap (λ n. sum_to n (λ t. parked_in is_request a (w.waiting b t))) (threads_of trees turns w inv l r) in
    let counts = run_counts trees turns w l run sited r in (
      rest_counted w z (every_run_counted trees turns w run) rest.lines a b
          ∙ by (z.done a b) (sent a b l.requests) (sum_to w.threads (λ t. parked_in is_request a (w.waiting b t))) (sent a b (waiting_requests (length trees) turns l 0 ts)) (run_requests trees turns w l run sited r a b apart) waiting
          ∙ sym (sent_more a b (waiting_requests (length trees) turns l 0 ts) l.requests),
      last (z.replied b a) (left_at w a b) (sent b a l.replies) (counts.replies a b apart) (rest.answered a b),
    )
  where
    none_plus : (n : ℕ) → 0 + n ≡ n
    none_plus n = omega arith

    by : (d q p m : ℕ) → d ≡ q → m ≡ p → d + p ≡ m + q
    by d q p m e f = omega arith

    last : (r f p : ℕ) → p ≡ r + f → f ≡ 0 → r ≡ p
    last r f p e g = omega arith
