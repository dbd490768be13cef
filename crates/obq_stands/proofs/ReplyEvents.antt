-- Each event keeps what the replies posted and the located fold's come to.
use Rattle.std.specs.Prelude.{true, false, List, Option, Some, None, [], ◌∷◌, ◌++◌, ℕ, suc, zero, length, refl, slice_get, slice_index_or, ◌+◌, ◌<◌, ◌≡◌}
use Rattle.std.proofs.Common.{inl, ap, sym, ◌∙◌, subst, arith}
use Rattle.std.proofs.lemmas.Option.{get_or_from_slice_get}
use Rattle.obq_base.specs.declared.acts.ActKind.{ActKind}
use Rattle.obq_base.specs.declared.acts.Entry.{Entry}
use Rattle.obq_base.specs.Tree.{BlockTree}
use Rattle.obq_model.specs.Terms.{Thread, Term, Const}
use Rattle.obq_model.specs.Step.{Self, no_self, Operation, Frame, Needs, find, plug, activations_at, self_at}
use Rattle.obq_model.specs.Config.{act}
use Rattle.obq_model.specs.Located.{Located, Message, message, sent, activations_of, located_opening, located_run}
use Rattle.obq_laws.specs.Determinism.{entry_of}
use Rattle.obq_laws.specs.Messages.{open_calls, all_open}
use Rattle.obq_laws.proofs.Sites.{run_balanced}
use Rattle.obq_laws.proofs.Trails.{sent_more, message_turned}
use Rattle.obq_stands.specs.World.{at2, Ref, same_ref, PendingCall, Slot, Suspended, Outcome, answer_term, wire, Request, Reply, Packet, thread_of, World}
use Rattle.obq_stands.specs.Stands.{Link, Table, Chained, Place, InLine, WaitsAt, EndedAt, IsIn, StandsFor}
use Rattle.obq_stands.specs.Events.{with_window, moved, calling, answering, IsOut, first_running, Takes, OffLine, OffHold, Step, Steps, Acted, Forks, Finishes, Asks, Serves, Enters, Holds, Returns, Resumes, Run, Begin, Then, windows, world_at}
use Rattle.obq_stands.specs.Around.{ArePendingBare}
use Rattle.obq_stands.specs.Begun.{AreBegun}
use Rattle.obq_stands.specs.AtSites.{sites_around, TrailIs, AreTrails, AreSited}
use Rattle.obq_stands.specs.Counts.{sum_to, one_more, is_request, open_of, left_of, left_in, left_at, Tally, tally_of, no_tally, tally_run, EveryRunCountsAsLocated}
use Rattle.obq_stands.proofs.ActiveLinks.{AreActive, every_run_active}
use Rattle.obq_stands.proofs.BareFrames.{activations_plug, every_run_bare}
use Rattle.obq_stands.proofs.CellsThere.{located_there}
use Rattle.obq_stands.proofs.Chains.{bottom}
use Rattle.obq_stands.proofs.Counts.{sum_same, sum_zero, gain, more, carried_below, every_run_counted}
use Rattle.obq_stands.proofs.Entered.{every_run_begun}
use Rattle.obq_stands.proofs.Homes.{running_below, below_other}
use Rattle.obq_stands.proofs.Moves.{out_running, out_packet}
use Rattle.obq_stands.proofs.Opening.{every_run_stands}
use Rattle.obq_stands.proofs.PendingCalls.{fits_in}
use Rattle.obq_stands.proofs.ReplyCounts.{is_running, left_there, left_called, left_away, left_here, called, owes, trail_of, running_owes, trail_is, entry_others, all_owe, shift, own_by, same_segment, waits_left}
use Rattle.obq_stands.proofs.RequestCounts.{sent_gain, request_done, step_done, run_requests}
use Rattle.obq_stands.proofs.RequestTrails.{Requesting, requesting, first_segment, every_run_at_sites}
use Rattle.obq_stands.proofs.SitedTrails.{trails_of}
use Rattle.obq_stands.proofs.TrailEvents.{posted_place, located_same, out_none}
use Rattle.obq_stands.proofs.Update.{at2_same, at2_other}

-- the reply that an event posts, from the site where it is done
abbrev reply_posted : {turns : ℕ} {w x : World} → Step turns w x → List Message
reply_posted (Serves w w1 a b t k used depth self op kind loc m y o takes may does gives) = message b a
reply_posted (Returns w s t slot call o is answers out) = message s call.site
reply_posted e = []

-- what holds behind a list of events that are done at their sites
record Sited (trees : List BlockTree) (turns : ℕ) (w : World) (inv : StandsFor trees turns w) (l : Located) : Type 0 where
  located : located_run trees turns w.journal ≡ Some l
  active : AreActive w
  begun : AreBegun w
  bare : ArePendingBare w
  trails : AreTrails trees turns w inv l

-- a thread whose packet was taken runs nowhere
taken_away : (trees : List BlockTree) (turns : ℕ) (w : World) (inv : StandsFor trees turns w) (a b c d : ℕ) (p : Packet) (w1 : World) → Takes w a b p w1 → left_in c (w.running d (thread_of p)) ≡ 0
taken_away trees turns w inv a b c d p _ (OffLine ps is) = left_away trees turns w inv c d (thread_of p) (InLine a b p) (fits_in inv.stands.place a b (w.lines a b) p (inv.stands.placed.fits a b) (subst (IsIn p) (sym is) (inl refl))) refl
taken_away trees turns w inv a b c d p _ (OffHold is) = left_away trees turns w inv c d (thread_of p) (WaitsAt b (record { from = a; packet = p })) (inv.stands.placed.waits b (thread_of p) (record { from = a; packet = p }) is) refl

zeros : (m n r q : ℕ) → m ≡ 0 → n ≡ 0 → r ≡ q → m + r ≡ n + q
zeros m n r q e f g = omega arith

-- the segment of a thread is suspended
asks_owes : (trees : List BlockTree) (turns : ℕ) (w x : World) (inv : StandsFor trees turns w) (inv2 : StandsFor trees turns x) (l l2 : Located) (c d s t : ℕ) (slot : Slot) (op : Operation Ref) (hs : List (Frame Ref)) (y : Place) → Sited trees turns w inv l → l ≡ l2 → w.running s t ≡ Some slot
    → find same_ref slot.segment.depth slot.segment.self slot.segment.window ≡ Needs op hs → inv2.stands.place t ≡ y → is_running y ≡ false → owes x l2 c d t + 0 ≡ owes w l c d t + 0
asks_owes trees turns w x inv inv2 l l2 c d s t slot op hs y h same is needs at none =
    own_by w x l l2 c d t 0 0 (ap (λ (z : Located). trail_of z t) (sym same))
    (zeros (left_in c (x.running d t)) (left_in c (w.running d t)) 0 0 (left_away trees turns x inv2 c d t y at none)
    (left_here trees turns w inv c d s t slot is ∙ waits_left c d s slot.segment op hs (h.begun.runs s t slot is) needs (activations_of slot.segment.window) (λ m e. (m, e))) refl)

-- a thread ends
ends_owes : (trees : List BlockTree) (turns : ℕ) (w x : World) (inv : StandsFor trees turns w) (inv2 : StandsFor trees turns x) (l l2 : Located) (c d s t : ℕ) (slot : Slot) (e : _) → (c ≡ d → ⊥) → Sited trees turns w inv l → Sited trees turns x inv2 l2 → w.running s t ≡ Some slot → slot.segment.answers ≡ None
    → t < x.threads → inv2.stands.place t ≡ EndedAt s e → owes x l2 c d t + 0 ≡ owes w l c d t + 0
ends_owes trees turns w x inv inv2 l l2 c d s t slot e apart h h2 is none below at =
    let goes = (out_running turns w inv.config s t slot inv.stands is).1 in
    let ls : List Link = goes.reads.links in
    let base = bottom w.pending t slot.segment.depth slot.segment.self slot.segment.answers ls none goes.reads.chained in
    let before : owes w l c d t ≡ 0 = running_owes trees turns w inv l c d s t slot.segment.depth slot slot.segment.self ls apart h.active h.begun h.located h.trails is goes.reads.chained
    ∙ ap (λ o. called c d s o + sent c d (open_calls (sites_around s ls))) none ∙ ap (λ z. 0 + sent c d (open_calls (sites_around s z))) base.0 in
    let trail : trail_of l2 t ≡ s ∷ [] = subst (λ y. TrailIs x.pending t y (trail_of l2 t)) at (trail_is trees turns x inv2 l2 t h2.located h2.trails below) in
    let after : owes x l2 c d t ≡ 0 = ap (λ (z : List ℕ). sent c d (open_calls z) + left_in c (x.running d t)) trail ∙ ap (λ n. 0 + n) (left_away trees turns x inv2 c d t (EndedAt s e) at refl) in
    zeros (owes x l2 c d t) (owes w l c d t) 0 0 after before refl

-- the trail of a thread whose request is under way
request_trail : (trees : List BlockTree) (turns : ℕ) (w : World) (inv : StandsFor trees turns w) (l : Located) (a t k used depth : ℕ) (self : Self Ref) (op : Operation Ref) (q : Requesting trees turns w inv l a t k used depth self op) → trail_of l t ≡ sites_around 0 (q.link ∷ q.links)
request_trail trees turns w inv l a t k used depth self op q = get_or_from_slice_get l.thread_sites t q.trail [] q.at ∙ q.is depth self (q.link ∷ q.links) q.chained

-- a request is answered
serves_owes : (trees : List BlockTree) (turns : ℕ) (w w1 x : World) (inv : StandsFor trees turns w) (inv2 : StandsFor trees turns x) (l l2 : Located) (c d a b t k used used2 depth : ℕ) (self : Self Ref) (op : Operation Ref) (o : Outcome Ref) → Sited trees turns w inv l → Sited trees turns x inv2 l2
    → Takes w a b (Request t k used depth self op) w1 → t < x.threads → x.pending ≡ w.pending → inv2.stands.place t ≡ InLine b a (Reply t k used2 o) → owes x l2 c d t + sent d c (message b a) ≡ owes w l c d t + sent c d (message a b)
serves_owes trees turns w w1 x inv inv2 l l2 c d a b t k used used2 depth self op o h h2 takes below p at =
    let q = requesting trees turns w w1 inv l a b t k used depth self op h.located h.trails takes in
    let key : PendingCall = record { site = a; number = k } in
    let links : List Link = q.link ∷ q.links in
    let trail : trail_of l2 t ≡ sites_around 0 links = subst (λ y. TrailIs x.pending t y (trail_of l2 t)) at (trail_is trees turns x inv2 l2 t h2.located h2.trails below) depth self links (subst (λ (f : Table). Chained f t depth self (Some key) links) (sym p) q.chained) in
    own_by w x l l2 c d t (sent d c (message b a)) (sent c d (message a b)) (trail ∙ sym (request_trail trees turns w inv l a t k used depth self op q))
    (zeros (left_in c (x.running d t)) (left_in c (w.running d t)) (sent d c (message b a)) (sent c d (message a b)) (left_away trees turns x inv2 c d t (InLine b a (Reply t k used2 o)) at refl)
    (taken_away trees turns w inv a b c d (Request t k used depth self op) w1 takes) (message_turned c d b a))

-- an activation begins
enters_owes : (trees : List BlockTree) (turns : ℕ) (w w1 x : World) (inv : StandsFor trees turns w) (inv2 : StandsFor trees turns x) (l l2 : Located) (c d a b t k used depth : ℕ) (self : Self Ref) (op : Operation Ref) (y : Term Ref) → (c ≡ d → ⊥) → Sited trees turns w inv l → Sited trees turns x inv2 l2
    → Takes w a b (Request t k used depth self op) w1 → x.running b t ≡ Some (answering a k used depth self y) → x.pending ≡ w.pending → owes x l2 c d t + 0 ≡ owes w l c d t + sent c d (message a b)
enters_owes trees turns w w1 x inv inv2 l l2 c d a b t k used depth self op y apart h h2 takes runs p =
    let q = requesting trees turns w w1 inv l a b t k used depth self op h.located h.trails takes in
    let key : PendingCall = record { site = a; number = k } in
    let links : List Link = q.link ∷ q.links in
    let now : owes x l2 c d t ≡ sent c d (message a b) + sent c d (open_calls (sites_around 0 links)) =
    running_owes trees turns x inv2 l2 c d b t depth (answering a k used depth self y) self links apart h2.active h2.begun h2.located h2.trails runs (subst (λ (f : Table). Chained f t depth self (Some key) links) (sym p) q.chained) in
    let before : owes w l c d t ≡ sent c d (open_calls (sites_around 0 links)) + 0 =
    ap (λ (z : List ℕ). sent c d (open_calls z) + left_in c (w.running d t)) (request_trail trees turns w inv l a t k used depth self op q) ∙ ap (λ n. sent c d (open_calls (sites_around 0 links)) + n) (taken_away trees turns w inv a b c d (Request t k used depth self op) w1 takes) in
    by (owes x l2 c d t) (owes w l c d t) (sent c d (message a b)) (sent c d (open_calls (sites_around 0 links))) now before
  where
    by : (y z m o : ℕ) → y ≡ m + o → z ≡ o + 0 → y + 0 ≡ z + m
    by y z m o e f = omega arith

-- a segment answers
returns_owes : (trees : List BlockTree) (turns : ℕ) (w x : World) (inv : StandsFor trees turns w) (inv2 : StandsFor trees turns x) (l l2 : Located) (c d s t : ℕ) (slot : Slot) (call : PendingCall) (o : Outcome Ref) (y : Place) → (c ≡ d → ⊥) → l ≡ l2 → w.running s t ≡ Some slot → slot.segment.answers ≡ Some call
    → IsOut slot.segment.window o → inv2.stands.place t ≡ y → is_running y ≡ false → owes x l2 c d t + sent d c (message s call.site) ≡ owes w l c d t + 0
returns_owes trees turns w x inv inv2 l l2 c d s t slot call o y apart same is answers out at none =
    let left : left_in c (w.running d t) ≡ sent c d (message call.site s) = left_here trees turns w inv c d s t slot is
    ∙ ap (λ n. left_there c d s slot.segment.answers n) (out_none slot.segment.window o out) ∙ ap (λ a. left_there c d s a 0) answers ∙ left_called c d s call apart in
    own_by w x l l2 c d t (sent d c (message s call.site)) 0 (ap (λ (z : Located). trail_of z t) (sym same))
    (by (left_in c (x.running d t)) (left_in c (w.running d t)) (sent d c (message s call.site)) (sent c d (message call.site s)) (left_away trees turns x inv2 c d t y at none) left (message_turned c d s call.site))
  where
    by : (m n r q : ℕ) → m ≡ 0 → n ≡ q → r ≡ q → m + r ≡ n + 0
    by m n r q e f g = omega arith

-- a segment goes on
resumes_owes : (trees : List BlockTree) (turns : ℕ) (w w1 x : World) (inv : StandsFor trees turns w) (inv2 : StandsFor trees turns x) (l l2 : Located) (c d a b t k used : ℕ) (o : Outcome Ref) (e : Suspended) (op : Operation Ref) (hs : List (Frame Ref)) → Sited trees turns w inv l → l ≡ l2
    → Takes w a b (Reply t k used o) w1 → w.pending b k ≡ Some e → find same_ref e.segment.depth e.segment.self e.segment.window ≡ Needs op hs → x.running b t ≡ Some (record { segment = with_window e.segment (plug hs (answer_term op o)); used = used }) → owes x l2 c d t + 0 ≡ owes w l c d t + 0
resumes_owes trees turns w w1 x inv inv2 l l2 c d a b t k used o e op hs h same takes here needs runs =
    let y : Term Ref = answer_term op o in
    let slot : Slot = record { segment = with_window e.segment (plug hs y); used = used } in
    let acts : activations_of e.segment.window ≡ activations_at 0 hs = h.active b k e here op hs needs in
    let all : activations_at 0 hs + activations_of y ≡ 0 + activations_of (plug hs y) = activations_plug 0 hs y (h.bare b k e here op hs needs) in
    own_by w x l l2 c d t 0 0 (ap (λ (z : Located). trail_of z t) (sym same))
    (zeros (left_in c (x.running d t)) (left_in c (w.running d t)) 0 0
    (left_here trees turns x inv2 c d b t slot runs ∙ waits_left c d b e.segment op hs (h.begun.pends b k e here) needs (activations_of (plug hs y)) (λ m q. (m + activations_of y, by m (activations_at 0 hs) (activations_of y) (activations_of (plug hs y)) (sym acts ∙ q) all)))
    (taken_away trees turns w inv a b c d (Reply t k used o) w1 takes) refl)
  where
    by : (m n y z : ℕ) → n ≡ suc m → n + y ≡ 0 + z → z ≡ suc (m + y)
    by m n y z e f = omega arith

-- ---- every event

plus_none : (m n : ℕ) → m ≡ n → m + 0 ≡ n + 0
plus_none m n e = omega arith

step_owes : (trees : List BlockTree) (turns : ℕ) (w x : World) (inv : StandsFor trees turns w) (inv2 : StandsFor trees turns x) (l l2 : Located) (c d : ℕ) → (c ≡ d → ⊥) → Sited trees turns w inv l → Sited trees turns x inv2 l2 → (e : Step turns w x)
    → all_owe x l2 c d + sent d c (reply_posted e) ≡ all_owe w l c d + sent c d (request_done e)
step_owes trees turns w x inv inv2 l l2 c d apart h h2 (Steps _ s t n slot u is few e) =
    let slot2 : Slot = moved slot n u in
    shift w x l l2 c d t 0 0 (running_below turns w inv.config s t slot inv.stands is) (entry_others trees turns w x inv l l2 t n None h.located h2.located refl) (λ v k ne. at2_other w.running s t (Some slot2) d v (λ _ q. ne q))
    (same_segment trees turns w x inv inv2 l l2 c d s t slot slot2 apart h.active h.begun h2.active h2.begun h.located h2.located h.trails h2.trails is (at2_same w.running s t (Some slot2)) refl refl)
step_owes trees turns w x inv inv2 l l2 c d apart h h2 (Acted _ s t n slot u op hs kind loc m y is few e needs does) =
    let slot2 : Slot = moved slot (n + 1) (plug hs y) in
    shift w x l l2 c d t 0 0 (running_below turns w inv.config s t slot inv.stands is) (entry_others trees turns w x inv l l2 t n (Some (act kind loc)) h.located h2.located refl) (λ v k ne. at2_other w.running s t (Some slot2) d v (λ _ q. ne q))
    (same_segment trees turns w x inv inv2 l l2 c d s t slot slot2 apart h.active h.begun h2.active h2.begun h.located h2.located h.trails h2.trails is (at2_same w.running s t (Some slot2)) refl refl)
step_owes trees turns w x inv inv2 l l2 c d apart h h2 (Forks _ s t n slot u v hs is few e needs room) =
    let slot2 : Slot = moved slot (n + 1) (plug hs (Const (Thread w.threads))) in
    let runs : ℕ → ℕ → Option Slot = at2 w.running s t (Some slot2) in
    let below : t < w.threads = running_below turns w inv.config s t slot inv.stands is in
    let at_t : x.running s t ≡ Some slot2 = at2_other runs s w.threads (Some (calling v)) s t (λ _ q. below_other t w.threads below q) ∙ at2_same w.running s t (Some slot2) in
    let new : owes x l2 c d w.threads ≡ 0 + 0 = running_owes trees turns x inv2 l2 c d s w.threads 0 (calling v) no_self [] apart h2.active h2.begun h2.located h2.trails (at2_same runs s w.threads (Some (calling v))) (refl, refl) in
    let old = shift w x l l2 c d t 0 0 below (entry_others trees turns w x inv l l2 t n (Some (act ActKind.Fork w.threads)) h.located h2.located refl)
    (λ b k ne. at2_other runs s w.threads (Some (calling v)) d b (λ _ q. below_other b w.threads k q) ∙ at2_other w.running s t (Some slot2) d b (λ _ q. ne q))
    (same_segment trees turns w x inv inv2 l l2 c d s t slot slot2 apart h.active h.begun h2.active h2.begun h.located h2.located h.trails h2.trails is at_t refl refl) in
    by (owes x l2 c d w.threads) (sum_to w.threads (owes x l2 c d)) (all_owe w l c d) new old
  where
    by : (a m n : ℕ) → a ≡ 0 + 0 → m + 0 ≡ n + 0 → (a + m) + 0 ≡ n + 0
    by a m n e f = omega arith
step_owes trees turns w x inv inv2 l l2 c d apart h h2 (Finishes _ s t n slot u e is none few steps ends) =
    let below : t < w.threads = running_below turns w inv.config s t slot inv.stands is in
    shift w x l l2 c d t 0 0 below (entry_others trees turns w x inv l l2 t n (Some (act ActKind.End t)) h.located h2.located refl) (λ v k ne. at2_other w.running s t None d v (λ _ q. ne q))
    (ends_owes trees turns w x inv inv2 l l2 c d s t slot e apart h h2 is none below (inv2.stands.placed.ends s t e (at2_same w.ended s t (Some e))))
step_owes trees turns w x inv inv2 l l2 c d apart h h2 (Asks _ s t to k slot op hs is few needs free) =
    let p : Packet = Request t k slot.used (activations_at slot.segment.depth hs) (self_at slot.segment.self hs) (wire op) in
    let same : l ≡ l2 = located_same trees turns w x l l2 h.located h2.located refl in
    shift w x l l2 c d t 0 0 (running_below turns w inv.config s t slot inv.stands is) (λ u k ne. ap (λ (z : Located). slice_get z.thread_sites u) (sym same)) (λ v k ne. at2_other w.running s t None d v (λ _ q. ne q))
    (asks_owes trees turns w x inv inv2 l l2 c d s t slot op hs (InLine s to p) h same is needs (posted_place trees turns x inv2 s to (w.lines s to) p (at2_same w.lines s to (w.lines s to ++ p ∷ []))) refl)
step_owes trees turns w x inv inv2 l l2 c d apart h h2 (Serves _ w1 a b t k used depth self op kind loc m y o takes may does gives) =
    let p : Packet = Request t k used depth self op in
    let back : Packet = Reply t k (used + 1) o in
    let q = out_packet turns w inv.config a b p w1 inv.stands takes in
    let below : t < w.threads = carried_below turns w w1 inv.config a b p inv.stands takes in
    ap (λ n. sum_to n (owes x l2 c d) + sent d c (message b a)) q.threads
    ∙ shift w x l l2 c d t (sent d c (message b a)) (sent c d (message a b)) below (entry_others trees turns w x inv l l2 t 0 (Some (act kind loc)) h.located h2.located (ap (λ (es : List Entry). es ++ entry_of t 0 (Some (act kind loc)) ∷ []) q.journal))
    (λ u i ne. ap (λ (f : ℕ → ℕ → Option Slot). f d u) q.running)
    (serves_owes trees turns w w1 x inv inv2 l l2 c d a b t k used (used + 1) depth self op o h h2 takes (subst (λ n. t < n) (sym q.threads) below) q.pending (posted_place trees turns x inv2 b a (w1.lines b a) back (at2_same w1.lines b a (w1.lines b a ++ back ∷ []))))
step_owes trees turns w x inv inv2 l l2 c d apart h h2 (Enters _ w1 a b t k used depth self op kind loc m y z takes call does enters) =
    let p : Packet = Request t k used depth self op in
    let slot : Slot = answering a k used depth self z in
    let q = out_packet turns w inv.config a b p w1 inv.stands takes in
    ap (λ n. sum_to n (owes x l2 c d) + 0) q.threads
    ∙ shift w x l l2 c d t 0 (sent c d (message a b)) (carried_below turns w w1 inv.config a b p inv.stands takes) (entry_others trees turns w x inv l l2 t 0 (Some (act kind loc)) h.located h2.located (ap (λ (es : List Entry). es ++ entry_of t 0 (Some (act kind loc)) ∷ []) q.journal))
    (λ u i ne. at2_other w1.running b t (Some slot) d u (λ _ g. ne g) ∙ ap (λ (f : ℕ → ℕ → Option Slot). f d u) q.running)
    (enters_owes trees turns w w1 x inv inv2 l l2 c d a b t k used depth self op z apart h h2 takes (at2_same w1.running b t (Some slot)) q.pending)
step_owes trees turns w x inv inv2 l l2 c d apart h h2 (Holds _ w1 a b t k used depth self op takes) =
    let q = out_packet turns w inv.config a b (Request t k used depth self op) w1 inv.stands takes in
    let same : l ≡ l2 = located_same trees turns w x l l2 h.located h2.located q.journal in
    plus_none (all_owe x l2 c d) (all_owe w l c d) (ap (λ n. sum_to n (owes x l2 c d)) q.threads
    ∙ ap (λ (f : ℕ → ℕ → Option Slot). sum_to w.threads (λ u. sent c d (open_calls (trail_of l2 u)) + left_in c (f d u))) q.running
    ∙ ap (λ (z : Located). sum_to w.threads (λ u. sent c d (open_calls (trail_of z u)) + left_in c (w.running d u))) (sym same))
step_owes trees turns w x inv inv2 l l2 c d apart h h2 (Returns _ s t slot call o is answers out) =
    let p : Packet = Reply t call.number slot.used o in
    let same : l ≡ l2 = located_same trees turns w x l l2 h.located h2.located refl in
    shift w x l l2 c d t (sent d c (message s call.site)) 0 (running_below turns w inv.config s t slot inv.stands is) (λ u k ne. ap (λ (z : Located). slice_get z.thread_sites u) (sym same)) (λ v k ne. at2_other w.running s t None d v (λ _ q. ne q))
    (returns_owes trees turns w x inv inv2 l l2 c d s t slot call o (InLine s call.site p) apart same is answers out (posted_place trees turns x inv2 s call.site (w.lines s call.site) p (at2_same w.lines s call.site (w.lines s call.site ++ p ∷ []))) refl)
step_owes trees turns w x inv inv2 l l2 c d apart h h2 (Resumes _ w1 a b t k used o e op hs takes here needs) =
    let p : Packet = Reply t k used o in
    let slot : Slot = record { segment = with_window e.segment (plug hs (answer_term op o)); used = used } in
    let q = out_packet turns w inv.config a b p w1 inv.stands takes in
    let same : l ≡ l2 = located_same trees turns w x l l2 h.located h2.located q.journal in
    ap (λ n. sum_to n (owes x l2 c d) + 0) q.threads
    ∙ shift w x l l2 c d t 0 0 (carried_below turns w w1 inv.config a b p inv.stands takes) (λ u i ne. ap (λ (z : Located). slice_get z.thread_sites u) (sym same))
    (λ u i ne. at2_other w1.running b t (Some slot) d u (λ _ g. ne g) ∙ ap (λ (f : ℕ → ℕ → Option Slot). f d u) q.running)
    (resumes_owes trees turns w w1 x inv inv2 l l2 c d a b t k used o e op hs h same takes here needs (at2_same w1.running b t (Some slot)))

-- ---- the tally

replied_more : (z : Tally) (s r c d : ℕ) → (c ≡ d → ⊥) → one_more z.replied s r d c ≡ sent d c (message s r) + z.replied d c
replied_more z s r c d apart = more z.replied s r d c ∙ turn (z.replied d c) (gain true d c s r) ∙ ap (λ n. n + z.replied d c) (sym (sent_gain d c s r (λ e. apart (sym e))))
  where
    turn : (m n : ℕ) → m + n ≡ n + m
    turn m n = omega arith

none_more : (n : ℕ) → n ≡ 0 + n
none_more n = omega arith

step_replied : (turns : ℕ) (w x : World) (e : Step turns w x) (z : Tally) (c d : ℕ) → (c ≡ d → ⊥) → (tally_of e z).replied d c ≡ sent d c (reply_posted e) + z.replied d c
step_replied turns w x (Serves _ w1 a b t k used depth self op kind loc m y o takes may does gives) z c d apart = replied_more z b a c d apart
step_replied turns w x (Returns _ s t slot call o is answers out) z c d apart = replied_more z s call.site c d apart
step_replied turns w x (Steps _ s t n slot u is few e) z c d apart = none_more (z.replied d c)
step_replied turns w x (Acted _ s t n slot u op hs kind loc m y is few e needs does) z c d apart = none_more (z.replied d c)
step_replied turns w x (Forks _ s t n slot u v hs is few e needs room) z c d apart = none_more (z.replied d c)
step_replied turns w x (Finishes _ s t n slot u e is none few steps ends) z c d apart = none_more (z.replied d c)
step_replied turns w x (Asks _ s t to k slot op hs is few needs free) z c d apart = none_more (z.replied d c)
step_replied turns w x (Enters _ w1 a b t k used depth self op kind loc m y v takes call does enters) z c d apart = none_more (z.replied d c)
step_replied turns w x (Holds _ w1 a b t k used depth self op takes) z c d apart = none_more (z.replied d c)
step_replied turns w x (Resumes _ w1 a b t k used o e op hs takes here needs) z c d apart = none_more (z.replied d c)

-- ---- sums

sum_both : (n : ℕ) (f g : ℕ → ℕ) → sum_to n (λ u. f u + g u) ≡ sum_to n f + sum_to n g
sum_both zero f g = refl
sum_both (suc n) f g = let e = sum_both n f g in omega (arith, e)

pub sum_first : (n : ℕ) (f : ℕ → ℕ) → sum_to (suc n) f ≡ f 0 + sum_to n (λ u. f (suc u))
sum_first zero f = refl
sum_first (suc n) f = let e = sum_first n f in omega (arith, e)

open_sum : (a b : ℕ) (trs : List (List ℕ)) → sum_to (length trs) (λ u. sent a b (open_calls (slice_index_or trs u []))) ≡ sent a b (all_open trs)
open_sum a b [] = refl
open_sum a b (tr ∷ trs) =
    sum_first (length trs) (λ u. sent a b (open_calls (slice_index_or (tr ∷ trs) u []))) ∙ ap (λ n. sent a b (open_calls tr) + n) (open_sum a b trs) ∙ sym (sent_more a b (open_calls tr) (all_open trs))

-- what all owe are the open calls of the fold, and the activations that have been left
all_parts : (trees : List BlockTree) (turns : ℕ) (w : World) (inv : StandsFor trees turns w) (l : Located) (a b : ℕ) → located_run trees turns w.journal ≡ Some l → all_owe w l a b ≡ sent a b (all_open l.thread_sites) + left_at w a b
all_parts trees turns w inv l a b r =
    sum_both w.threads (λ u. sent a b (open_calls (trail_of l u))) (λ u. left_in a (w.running b u))
    ∙ ap (λ n. sum_to n (λ u. sent a b (open_calls (trail_of l u))) + left_at w a b) (sym (trails_of trees turns w inv l r)) ∙ ap (λ n. n + left_at w a b) (open_sum a b l.thread_sites)

-- ---- from the start

-- no segment of the opening answers a call
pub first_left : (xs : List (Term Ref)) (a b u : ℕ) → left_in a (first_running xs b u) ≡ 0
first_left xs a b u = by (first_running xs b u) refl
  where
    by : (o : Option Slot) → first_running xs b u ≡ o → left_in a o ≡ 0
    by None e = refl
    by (Some slot) e = ap (λ z. left_of a z (activations_of slot.segment.window)) (first_segment xs b u slot e).1

first_owes : (trees : List BlockTree) (turns : ℕ) (l : Located) (a b : ℕ) → located_run trees turns [] ≡ Some l → all_owe (world_at (windows 0 trees)) l a b ≡ 0
first_owes trees turns l a b r =
    let w : World = world_at (windows 0 trees) in
    let balanced : 0 ≡ sent b a (located_opening trees).replies + sent a b (all_open (located_opening trees).thread_sites) = run_balanced trees turns [] (located_opening trees) refl a b in
    let same : located_opening trees ≡ l = cc r in
    let left : left_at w a b ≡ 0 = sum_same w.threads (λ u. 0) (λ u. left_in a (w.running b u)) (λ u k. first_left (windows 0 trees) a b u) ∙ sum_zero w.threads in
    all_parts trees turns w (every_run_stands trees turns w Begin) l a b r ∙ ap (λ (z : Located). sent a b (all_open z.thread_sites) + left_at w a b) (sym same) ∙ by (sent a b (all_open (located_opening trees).thread_sites)) (left_at w a b) balanced left
  where
    by : (m n : ℕ) → 0 ≡ 0 + m → n ≡ 0 → m + n ≡ 0
    by m n e f = omega arith

sited_at : (trees : List BlockTree) (turns : ℕ) (w : World) (l : Located) (run : Run turns (world_at (windows 0 trees)) w) → AreSited (length trees) run → located_run trees turns w.journal ≡ Some l → Sited trees turns w (every_run_stands trees turns w run) l
sited_at trees turns w l run sited r =
    record {
      located = r;
      active = every_run_active trees turns w run sited;
      begun = every_run_begun trees turns w run;
      bare = every_run_bare trees turns w run;
      trails = (every_run_at_sites trees turns w (every_run_stands trees turns w run) l run sited r).1;
    }

-- the requests done are the replies posted, and what all owe
run_owed : (trees : List BlockTree) (turns : ℕ) (w : World) (l : Located) (run : Run turns (world_at (windows 0 trees)) w) → AreSited (length trees) run → located_run trees turns w.journal ≡ Some l → (c d : ℕ) → (c ≡ d → ⊥) → (tally_run run no_tally).done c d ≡ (tally_run run no_tally).replied d c + all_owe w l c d
run_owed trees turns w l Begin sited r c d apart = none_more 0 ∙ ap (λ n. 0 + n) (sym (first_owes trees turns l c d r))
run_owed trees turns w l (Then {v = v} run e) sited r c d apart =
    let inv = every_run_stands trees turns v run in
    let there = located_there trees turns v.journal inv.config inv.replays in
    let z : Tally = tally_run run no_tally in
    by ((tally_of e z).done c d) ((tally_of e z).replied d c) (z.done c d) (z.replied d c) (sent c d (request_done e)) (sent d c (reply_posted e)) (all_owe v there.0 c d) (all_owe w l c d) (step_done turns v w e z c d apart) (step_replied turns v w e z c d apart)
    (run_owed trees turns v there.0 run sited.0 there.1 c d apart)
    (step_owes trees turns v w inv (every_run_stands trees turns w (Then run e)) there.0 l c d apart (sited_at trees turns v there.0 run sited.0 there.1) (sited_at trees turns w l (Then run e) sited r) e)
  where
    by : (d2 r2 d1 r1 q p o1 o2 : ℕ) → d2 ≡ q + d1 → r2 ≡ p + r1 → d1 ≡ r1 + o1 → o2 + p ≡ o1 + q → d2 ≡ r2 + o2
    by d2 r2 d1 r1 q p o1 o2 e f g h = omega arith

pub run_counts : EveryRunCountsAsLocated
run_counts trees turns w l run sited r =
    let z : Tally = tally_run run no_tally in
    let inv = every_run_stands trees turns w run in
    let counted = every_run_counted trees turns w run in
    record {
      requests = λ a b apart. counted.requests a b ∙ ap (λ n. n + open_of is_request w a b) (run_requests trees turns w l run sited r a b apart);
      replies = λ a b apart.
          by (sent b a l.replies) (sent a b (all_open l.thread_sites)) (sent a b l.requests) (z.done a b) (z.replied b a) (all_owe w l a b) (left_at w a b) (run_balanced trees turns w.journal l r a b) (run_requests trees turns w l run sited r a b apart) (run_owed trees turns w l run sited r a b apart)
          (all_parts trees turns w inv l a b r);
    }
  where
    by : (p o q d r a f : ℕ) → q ≡ p + o → d ≡ q → d ≡ r + a → a ≡ o + f → p ≡ r + f
    by p o q d r a f e g h i = omega arith
