-- The requests whose act was done are those that the located fold counts.
use Rattle.std.specs.Prelude.{Bool, true, false, if◌then◌else◌, List, Some, None, [], ◌∷◌, ◌++◌, ◌&&◌, ◌==◌, ℕ, suc, zero, length, refl, slice_get, ◌+◌, ◌≡◌, ◌⊎◌}
use Rattle.std.proofs.Common.{inl, inr, ap, sym, ◌∙◌, arith}
use Rattle.std.proofs.lemmas.Option.{get_or_from_slice_get}
use Rattle.obq_base.specs.declared.acts.Act.{Act}
use Rattle.obq_base.specs.declared.acts.ActKind.{ActKind}
use Rattle.obq_base.specs.declared.acts.Entry.{Entry}
use Rattle.obq_base.specs.Tree.{BlockTree}
use Rattle.obq_model.specs.Terms.{Exn, ExitUp, Term}
use Rattle.obq_model.specs.Step.{Self, Operation, ForkOff, Found, Next, Needs, Done, Uncaught, find}
use Rattle.obq_model.specs.Config.{Running, ThreadState, Config, act}
use Rattle.obq_model.specs.Located.{Located, Here, Message, message, sent, located_opening, located_run, locate_execution, place_in, site_at, site_here}
use Rattle.obq_model.specs.Maps.{map_found}
use Rattle.obq_laws.specs.Determinism.{entry_of}
use Rattle.obq_laws.proofs.Trails.{no_message, sent_more}
use Rattle.obq_stands.specs.World.{Ref, same_ref, Memory, PendingCall, Slot, MayAsk, Request, Reply, Ending, World}
use Rattle.obq_stands.specs.Stands.{Link, StandsFor, Does}
use Rattle.obq_stands.specs.Events.{ends_as, Takes, Step, Steps, Acted, Forks, Finishes, Asks, Serves, Enters, Holds, Returns, Resumes, Run, Begin, Then, windows, world_at}
use Rattle.obq_stands.specs.Begun.{AreBegun}
use Rattle.obq_stands.specs.CellSites.{AreAt}
use Rattle.obq_stands.specs.AtSites.{AreTrails, IsDoneAt, IsSited, AreSited}
use Rattle.obq_stands.specs.Counts.{one_more, Tally, tally_of, no_tally, tally_run}
use Rattle.obq_stands.proofs.ActiveLinks.{AreActive, every_run_active, chain_here}
use Rattle.obq_stands.proofs.CellsThere.{config_of, onward, located_there}
use Rattle.obq_stands.proofs.Counts.{gain, gain_here, gain_other, more}
use Rattle.obq_stands.proofs.Entered.{every_run_begun}
use Rattle.obq_stands.proofs.EntryTrails.{act_is, act_site, trail_at, trail_before}
use Rattle.obq_stands.proofs.Memory.{reading}
use Rattle.obq_stands.proofs.Moves.{out_running, out_packet}
use Rattle.obq_stands.proofs.Opening.{every_run_stands}
use Rattle.obq_stands.proofs.RequestTrails.{requesting, asked_site, every_run_at_sites}
use Rattle.obq_stands.proofs.SitedTrails.{RunAt, run_at, here_is, acted_site}
use Rattle.obq_stands.proofs.TrailEvents.{some_same, running_here, located_same}
use Rattle.obq_stands.proofs.Turns.{state_of}
use Rattle.obq_stands.proofs.Update.{same_or, test_refl, test_no}
use Rattle.obq_stands.proofs.Wired.{call_may}

-- ---- messages

-- a message between two sites adds one for their pair
pub sent_gain : (c d a b : ℕ) → (c ≡ d → ⊥) → sent c d (message a b) ≡ gain true c d a b
sent_gain c d a b apart = by (same_or a b)
  where
    one : (x : Bool) → (if x then suc zero else zero) ≡ (if x then suc zero else zero)
    one x = refl

    found : (a == c) ≡ true → (b == d) ≡ true → (if a == c && b == d then suc zero else zero) ≡ 1
    found e f = rw (e, f) refl

    missed : (c ≡ a → d ≡ b → ⊥) → (if a == c && b == d then suc zero else zero) ≡ 0
    missed ne = by_first (same_or a c) (same_or b d)
      where
        last : (x : Bool) → (if x && false then suc zero else zero) ≡ 0
        last true = refl
        last false = refl

        by_first : ((a ≡ c) ⊎ (a ≡ c → ⊥)) → ((b ≡ d) ⊎ (b ≡ d → ⊥)) → (if a == c && b == d then suc zero else zero) ≡ 0
        by_first (inl e) (inl f) = absurd (ne (sym e) (sym f))
        by_first (inl e) (inr g) = ap (λ x. if a == c && x then suc zero else zero) (test_no b d g) ∙ last (a == c)
        by_first (inr g) q = ap (λ x. if x && b == d then suc zero else zero) (test_no a c g)

    by : ((a ≡ b) ⊎ (a ≡ b → ⊥)) → sent c d (message a b) ≡ gain true c d a b
    by (inl e) = ap (λ z. sent c d (message a z)) (sym e) ∙ ap (sent c d) (no_message a) ∙ sym (gain_other true c d a b (λ f g. apart (f ∙ e ∙ sym g)))
    by (inr ne) = ap (λ (x : Bool). sent c d (if x then [] else (a, b) ∷ [])) (test_no a b ne) ∙ by_pair (same_or c a) (same_or d b)
      where
        by_pair : ((c ≡ a) ⊎ (c ≡ a → ⊥)) → ((d ≡ b) ⊎ (d ≡ b → ⊥)) → (if a == c && b == d then suc zero else zero) ≡ gain true c d a b
        by_pair (inl e) (inl f) = found (ap (λ z. a == z) e ∙ test_refl a) (ap (λ z. b == z) f ∙ test_refl b) ∙ sym (gain_here true c d a b e f)
        by_pair (inl e) (inr g) = missed (λ _ f. g f) ∙ sym (gain_other true c d a b (λ _ f. g f))
        by_pair (inr g) q = missed (λ e _. g e) ∙ sym (gain_other true c d a b (λ e _. g e))

-- ---- the requests behind an entry

-- the request that an event does, where it comes from another site
abbrev pub request_done : {turns : ℕ} {w x : World} → Step turns w x → List Message
request_done (Serves w w1 a b t k used depth self op kind loc m y o takes may does gives) = message a b
request_done (Enters w w1 a b t k used depth self op kind loc m y z takes call does enters) = message a b
request_done e = []

-- an act of a running segment that is done at its site
own_requests : (trees : List BlockTree) (turns : ℕ) (w x : World) (inv : StandsFor trees turns w) (l l2 : Located) (s t n : ℕ) (slot : Slot) (u : Term Ref) (ls : List Link) (a : Act) → located_run trees turns w.journal ≡ Some l → located_run trees turns x.journal ≡ Some l2
    → x.journal ≡ w.journal ++ entry_of t n (Some a) ∷ [] → (k : RunAt trees turns w inv l s t n slot u ls) → act_site (length trees) l t n k.before k.behind ≡ site_here (trail_at l t n k.before).0 → l2.requests ≡ l.requests
own_requests trees turns w x inv l l2 s t n slot u ls a r r2 j k there =
    ap (λ (z : Located). z.requests) (sym (act_is trees turns w x inv l l2 t n slot.used a k.before k.behind r r2 j k.here k.steps))
    ∙ ap (λ z. message (site_here (trail_at l t n k.before).0) z ++ l.requests) there ∙ ap (λ (z : List Message). z ++ l.requests) (no_message (site_here (trail_at l t n k.before).0))

-- pure steps
steps_requests : (trees : List BlockTree) (turns : ℕ) (w x : World) (inv : StandsFor trees turns w) (l l2 : Located) (s t n : ℕ) (slot : Slot) → located_run trees turns w.journal ≡ Some l → located_run trees turns x.journal ≡ Some l2
    → x.journal ≡ w.journal ++ entry_of t n None ∷ [] → w.running s t ≡ Some slot → l2.requests ≡ l.requests
steps_requests trees turns w x inv l l2 s t n slot r r2 j is =
    let e0 : Entry = entry_of t n None in
    let o = onward trees turns w.journal e0 l l2 r (ap (located_run trees turns) (sym j) ∙ r2) in
    let at = running_here trees turns w inv s t slot is in
    let state : o.state ≡ state_of (Running at.0) slot.used = some_same (slice_get l.config.threads t) o.state (state_of (Running at.0) slot.used) o.here (ap (λ (c : Config). slice_get c.threads t) (sym (config_of trees turns w l inv r)) ∙ at.1) in
    ap (λ (z : Located). z.requests) (sym o.is) ∙ ap (λ (z : ThreadState). (locate_execution (length trees) l o.config e0 z.execution).requests) state

-- at the end of a thread nothing is asked
end_here : (f : Ref → ℕ) (x : Found Ref) (e : Ending) → ends_as x ≡ Some e → place_in (map_found f x) ≡ Here
end_here f (Next t) e h = absurd (cc h)
end_here f (Needs op fs) e h = absurd (cc h)
end_here f (Done v) e h = refl
end_here f (Uncaught (Exn y)) e h = refl
end_here f (Uncaught ExitUp) e h = refl

-- a request that does its act
done_requests : (trees : List BlockTree) (turns : ℕ) (w w1 x : World) (inv : StandsFor trees turns w) (l l2 : Located) (a b t k used depth : ℕ) (self : Self Ref) (op : Operation Ref) (kind : ActKind) (loc : ℕ) (m : Memory) (y : Term Ref) → AreActive w → AreBegun w → located_run trees turns w.journal ≡ Some l
    → located_run trees turns x.journal ≡ Some l2 → AreAt w.memory l.cell_sites → AreTrails trees turns w inv l → Takes w a b (Request t k used depth self op) w1 → MayAsk op → (does : Does w.memory w.ended w.threads t self op kind loc m y) → IsDoneAt (length trees) b does
    → x.journal ≡ w.journal ++ entry_of t 0 (Some (act kind loc)) ∷ [] → l2.requests ≡ message a b ++ l.requests
done_requests trees turns w w1 x inv l l2 a b t k used depth self op kind loc m y active begun r r2 at h takes may does done j =
    let q = requesting trees turns w w1 inv l a b t k used depth self op r h takes in
    let there : act_site (length trees) l t 0 q.term q.term ≡ b = asked_site trees turns w inv l a b t k used depth self op kind loc m y r at h q may does done in
    let key : q.link.key.site ≡ a = ap (λ (z : PendingCall). z.site) (sym q.chained.0) in
    let here : site_here (trail_before l t).0 ≡ a = ap site_here (get_or_from_slice_get l.thread_sites t q.trail [] q.at ∙ q.is depth self (q.link ∷ q.links) q.chained)
    ∙ chain_here w t depth 0 self (Some (record { site = a; number = k })) q.link q.links active begun q.chained ∙ key in
    ap (λ (z : Located). z.requests) (sym (act_is trees turns w x inv l l2 t 0 used (act kind loc) q.term q.term r r2 j q.here refl))
    ∙ ap (λ z. message (site_here (trail_before l t).0) z ++ l.requests) there ∙ ap (λ z. message z b ++ l.requests) here

pub step_requests : (trees : List BlockTree) (turns : ℕ) (w x : World) (inv : StandsFor trees turns w) (l l2 : Located) → Run turns (world_at (windows 0 trees)) w → AreActive w → AreBegun w → located_run trees turns w.journal ≡ Some l → located_run trees turns x.journal ≡ Some l2
    → AreAt w.memory l.cell_sites → AreTrails trees turns w inv l → (e : Step turns w x) → IsSited (length trees) e → l2.requests ≡ request_done e ++ l.requests
step_requests trees turns w x inv l l2 run active begun r r2 at h (Steps _ s t n slot u is few e) sited = steps_requests trees turns w x inv l l2 s t n slot r r2 refl is
step_requests trees turns w x inv l l2 run active begun r r2 at h (Acted _ s t n slot u op hs kind loc m y is few e needs does) sited =
    let goes = (out_running turns w inv.config s t slot inv.stands is).1 in
    let ls : List Link = goes.reads.links in
    let k = run_at trees turns w inv l s t n slot.segment.depth slot u slot.segment.self ls run r h is e goes.reads.chained in
    own_requests trees turns w x inv l l2 s t n slot u ls (act kind loc) r r2 refl k (acted_site trees turns w inv l s t n slot u ls op hs kind loc m y r at h needs does sited k ∙ sym (here_is trees turns w inv l s t n slot u ls op hs needs k))
step_requests trees turns w x inv l l2 run active begun r r2 at h (Forks _ s t n slot u v hs is few e needs room) sited =
    let goes = (out_running turns w inv.config s t slot inv.stands is).1 in
    let ls : List Link = goes.reads.links in
    let k = run_at trees turns w inv l s t n slot.segment.depth slot u slot.segment.self ls run r h is e goes.reads.chained in
    own_requests trees turns w x inv l l2 s t n slot u ls (act ActKind.Fork w.threads) r r2 refl k (ap (λ q. site_at (length trees) l (site_here (trail_at l t n k.before).0) (place_in q)) (k.found (ForkOff v) hs needs).1)
step_requests trees turns w x inv l l2 run active begun r r2 at h (Finishes _ s t n slot u e is none few steps ends) sited =
    let goes = (out_running turns w inv.config s t slot inv.stands is).1 in
    let ls : List Link = goes.reads.links in
    let k = run_at trees turns w inv l s t n slot.segment.depth slot u slot.segment.self ls run r h is steps goes.reads.chained in
    own_requests trees turns w x inv l l2 s t n slot u ls (act ActKind.End t) r r2 refl k
    (ap (λ q. site_at (length trees) l (site_here (trail_at l t n k.before).0) (place_in q)) (k.last none) ∙ ap (site_at (length trees) l (site_here (trail_at l t n k.before).0)) (end_here (reading w.memory 0) (find same_ref slot.segment.depth slot.segment.self u) e ends))
step_requests trees turns w x inv l l2 run active begun r r2 at h (Asks _ s t to k slot op hs is few needs free) sited = ap (λ (z : Located). z.requests) (sym (located_same trees turns w x l l2 r r2 refl))
step_requests trees turns w x inv l l2 run active begun r r2 at h (Serves _ w1 a b t k used depth self op kind loc m y o takes may does gives) sited =
    let q = out_packet turns w inv.config a b (Request t k used depth self op) w1 inv.stands takes in
    done_requests trees turns w w1 x inv l l2 a b t k used depth self op kind loc m y active begun r r2 at h takes may does sited (ap (λ (es : List Entry). es ++ entry_of t 0 (Some (act kind loc)) ∷ []) q.journal)
step_requests trees turns w x inv l l2 run active begun r r2 at h (Enters _ w1 a b t k used depth self op kind loc m y z takes call does enters) sited =
    let q = out_packet turns w inv.config a b (Request t k used depth self op) w1 inv.stands takes in
    done_requests trees turns w w1 x inv l l2 a b t k used depth self op kind loc m y active begun r r2 at h takes (call_may op call) does sited (ap (λ (es : List Entry). es ++ entry_of t 0 (Some (act kind loc)) ∷ []) q.journal)
step_requests trees turns w x inv l l2 run active begun r r2 at h (Holds _ w1 a b t k used depth self op takes) sited =
    ap (λ (z : Located). z.requests) (sym (located_same trees turns w x l l2 r r2 (out_packet turns w inv.config a b (Request t k used depth self op) w1 inv.stands takes).journal))
step_requests trees turns w x inv l l2 run active begun r r2 at h (Returns _ s t slot call o is answers out) sited = ap (λ (z : Located). z.requests) (sym (located_same trees turns w x l l2 r r2 refl))
step_requests trees turns w x inv l l2 run active begun r r2 at h (Resumes _ w1 a b t k used o e op hs takes here needs) sited =
    ap (λ (z : Located). z.requests) (sym (located_same trees turns w x l l2 r r2 (out_packet turns w inv.config a b (Reply t k used o) w1 inv.stands takes).journal))

-- ---- the tally

done_more : (z : Tally) (a b c d : ℕ) → (c ≡ d → ⊥) → one_more z.done a b c d ≡ sent c d (message a b) + z.done c d
done_more z a b c d apart = more z.done a b c d ∙ turn (z.done c d) (gain true c d a b) ∙ ap (λ n. n + z.done c d) (sym (sent_gain c d a b apart))
  where
    turn : (m n : ℕ) → m + n ≡ n + m
    turn m n = omega arith

none_more : (n : ℕ) → n ≡ 0 + n
none_more n = omega arith

pub step_done : (turns : ℕ) (w x : World) (e : Step turns w x) (z : Tally) (c d : ℕ) → (c ≡ d → ⊥) → (tally_of e z).done c d ≡ sent c d (request_done e) + z.done c d
step_done turns w x (Serves _ w1 a b t k used depth self op kind loc m y o takes may does gives) z c d apart = done_more z a b c d apart
step_done turns w x (Enters _ w1 a b t k used depth self op kind loc m y v takes call does enters) z c d apart = done_more z a b c d apart
step_done turns w x (Steps _ s t n slot u is few e) z c d apart = none_more (z.done c d)
step_done turns w x (Acted _ s t n slot u op hs kind loc m y is few e needs does) z c d apart = none_more (z.done c d)
step_done turns w x (Forks _ s t n slot u v hs is few e needs room) z c d apart = none_more (z.done c d)
step_done turns w x (Finishes _ s t n slot u e is none few steps ends) z c d apart = none_more (z.done c d)
step_done turns w x (Asks _ s t to k slot op hs is few needs free) z c d apart = none_more (z.done c d)
step_done turns w x (Holds _ w1 a b t k used depth self op takes) z c d apart = none_more (z.done c d)
step_done turns w x (Returns _ s t slot call o is answers out) z c d apart = none_more (z.done c d)
step_done turns w x (Resumes _ w1 a b t k used o e op hs takes here needs) z c d apart = none_more (z.done c d)

-- behind every list of events that are done at their sites
pub run_requests : (trees : List BlockTree) (turns : ℕ) (w : World) (l : Located) (run : Run turns (world_at (windows 0 trees)) w) → AreSited (length trees) run → located_run trees turns w.journal ≡ Some l → (c d : ℕ) → (c ≡ d → ⊥) → (tally_run run no_tally).done c d ≡ sent c d l.requests
run_requests trees turns w l Begin sited r c d apart = let e : located_opening trees ≡ l = cc r in ap (λ (z : Located). sent c d z.requests) e
run_requests trees turns w l (Then {v = v} run e) sited r c d apart =
    let inv = every_run_stands trees turns v run in
    let there = located_there trees turns v.journal inv.config inv.replays in
    let sites = every_run_at_sites trees turns v inv there.0 run sited.0 there.1 in
    let step : l.requests ≡ request_done e ++ there.0.requests = step_requests trees turns v w inv there.0 l run (every_run_active trees turns v run sited.0) (every_run_begun trees turns v run) there.1 r sites.0 sites.1 e sited.1 in
    step_done turns v w e (tally_run run no_tally) c d apart ∙ ap (λ n. sent c d (request_done e) + n) (run_requests trees turns v there.0 run sited.0 there.1 c d apart) ∙ sym (sent_more c d (request_done e) there.0.requests) ∙ ap (sent c d) (sym step)
