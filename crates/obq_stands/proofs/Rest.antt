-- A World with watches at the start, behind every list of events, and at rest.
use Rattle.std.specs.Prelude.{Bool, true, false, List, Option, Some, None, [], ℕ, length, slice_get, refl, ◌≡◌}
use Rattle.std.proofs.Common.{inl, inr, ap, sym, ◌∙◌, subst}
use Rattle.obq_model.specs.Terms.{Term}
use Rattle.obq_model.specs.Store.{Cell}
use Rattle.obq_model.specs.Step.{Self, Operation, Again, Frame, Needs, find, self_at}
use Rattle.obq_model.specs.Config.{Config, ThreadState}
use Rattle.obq_model.specs.Effect.{in_line, line_of}
use Rattle.obq_model.specs.Cells.{again_row, is_free}
use Rattle.obq_model.specs.Opening.{opening}
use Rattle.obq_laws.specs.Phases.{IsAwakeState}
use Rattle.obq_laws.proofs.Phases.{awake_opened}
use Rattle.obq_stands.specs.World.{Born, Ending, Ends, Heap, Idle, Memory, Packet, Parked, Ref, Reply, Request, Slot, park, same_ref}
use Rattle.obq_stands.specs.Stands.{Absent, Agrees, At, Carries, EndedAt, InLine, MemoryStands, Nowhere, Place, Stands, StandsAt, StandsFor, WaitsAt}
use Rattle.obq_stands.specs.Events.{OffHold, windows, first_cell, world_at, LooksAt}
use Rattle.obq_base.specs.Tree.{BlockTree}
use Rattle.obq_stands.specs.World.{World}
use Rattle.obq_stands.specs.Counts.{IsTriedAt}
use Rattle.obq_stands.specs.WatchRuns.{IsTriedBeside}
use Rattle.obq_stands.specs.Over.{Waits, OnCellWaits, RetakeWaits, IsStuck, IsIdle}
use Rattle.obq_stands.specs.Watch.{Asleep, LineFits, Owed, Slept, Watch, Watched, mark, wake}
use Rattle.obq_stands.specs.Joined.{WatchStands, BeginWatch, ThenWatch, WatchBegins, EveryWatchRunStands, WaitsBeside, InStore, WakeMissing, NotFree, IsStuckBeside, WatchIdleIsOver, WakeIs, StillLined, OnItsWay, Arrived, WakeExactly}
use Rattle.obq_stands.proofs.Memory.{reading, reading_agrees}
use Rattle.obq_stands.proofs.Opening.{first, begins}
use Rattle.obq_stands.proofs.Presence.{present, present_abroad}
use Rattle.obq_stands.proofs.Over.{idle_is_over}
use Rattle.obq_stands.proofs.Lining.{some_born}
use Rattle.obq_stands.proofs.Sleeping.{one_watch, phase_of}
use Rattle.obq_stands.proofs.Asleep.{quiet_waits}
use Rattle.obq_stands.proofs.Turning.{states_of, asleep_before, not_asleep}
use Rattle.obq_stands.proofs.Joined.{stood_request, again_sleep, wire_again, watch_step_keeps}

-- ---- at the start

some_config : (a b : Config) → Some a ≡ Some b → a ≡ b
some_config a b e = cc e

pub watch_begins : WatchBegins
watch_begins trees turns =
    let inv : StandsFor trees turns (world_at (windows 0 trees)) = begins trees turns in
    let n : ℕ = length (windows 0 trees) in
    let same : opening trees ≡ inv.config = some_config (opening trees) inv.config inv.replays in
    record {
      stands = inv;
      place = λ u. Nowhere;
      watched = record {
        lines = λ r y e. let q = first n r y e in subst (λ (b : Born). LineFits (first_cell n) (states_of inv.config) (λ u. None) r (line_of (Some b.cell))) (sym q.cell) tt;
        placed = record { runs = λ s t slot e. absurd (cc e); waits = λ s t x e. absurd (cc e); ends = λ s t x e. absurd (cc e); fits = λ a b. tt; back = λ t. tt };
        owed = λ u. tt;
      };
      slept = record {
        sleep = λ u. None;
        asleep = λ u o q e. absurd (cc e);
        awake = λ u e. not_asleep (slice_get inv.config.threads u) (subst (λ (c : Config). IsAwakeState (slice_get c.threads u)) same (awake_opened 0 trees u));
        there = λ u o q e. absurd (cc e);
        lined = λ u o q y e far gone here. absurd (cc e);
      };
    }

pub every_watch_run_stands : EveryWatchRunStands
every_watch_run_stands trees turns w e BeginWatch = watch_begins trees turns
every_watch_run_stands trees turns w e (ThenWatch {v = v} {d = d} r s) = watch_step_keeps trees turns v w d e (every_watch_run_stands trees turns v d r) s

-- ---- at rest

not_free : (t : ℕ) (lined free : Bool) (o q : Ref) (guard : Term Ref) (c : Option (Cell Ref)) → is_free c ≡ false → again_row Ends Idle t lined o q guard c ≡ Idle
not_free t true free o q guard c e = refl
not_free t false free o q guard c e = rw e refl

-- it waits in the store, and is tried where it was
abbrev pub InStoreToo : {m : Memory} {en : ℕ → ℕ → Option Ending} {e : Watch} {t : ℕ} {s : Self Ref} {op : Operation Ref} → WaitsBeside m en e t s op → Type 0
InStoreToo {m} {en} {e} {t} {s} {op} k = (waits : Waits m en t s op) × ((server : ℕ) (home : ℕ → ℕ) (site : ℕ) → IsTriedBeside server home site k → IsTriedAt server home site waits)

tried_again : (m : Memory) (en : ℕ → ℕ → Option Ending) (t server site : ℕ) (home : ℕ → ℕ) (s : Self Ref) (o q : Ref) (guard : Term Ref) (waits : Waits m en t s (Again o q guard)) → o.site ≡ site → IsTriedAt server home site waits
tried_again m en t server site home s o q guard (OnCellWaits _ r x is here row) h = absurd (cc is)
tried_again m en t server site home s o q guard (RetakeWaits _ _ _ x y here there row) h = h

in_store : (c : Config) (m : Memory) (en : ℕ → ℕ → Option Ending) (e : Watch) (pl : ℕ → Place) (t : ℕ) (s : Self Ref) (op : Operation Ref) → MemoryStands m c.store → Watched m.heap (states_of c) e pl → Slept m.heap (states_of c) pl → ((a b : ℕ) → e.wakes a b ≡ [])
    → ((r : Ref) → LooksAt op r → (x : Born) × (m.heap r ≡ Some x)) → ((o q : Ref) (guard : Term Ref) → op ≡ Again o q guard → Asleep m.heap (states_of c t) o q) → (k : WaitsBeside m en e t s op) → InStoreToo k
in_store c m en e pl t s op st wd sl empty there asleep (InStore _ h) = (h, λ server home site q. q)
in_store c m en e pl t s op st wd sl empty there asleep (WakeMissing o q guard far none) =
    let z = there o (inl refl) in
    let y = there q (inr refl) in
    let waits : Waits m en t s (Again o q guard) = quiet_waits m (reading m 0) (reading_agrees m c.store st 0) en (states_of c) e pl t s o q guard z.0 y.0 wd sl (asleep o q guard refl) far empty none z.1 y.1 in
    (waits, λ server home site h. tried_again m en t server site home s o q guard waits h)
in_store c m en e pl t s op st wd sl empty there asleep (NotFree o q guard x here busy) =
    let y = there q (inr refl) in
    (RetakeWaits o q guard x y.0 here y.1 (not_free t (in_line t (line_of (Some y.0.cell))) false o q guard (Some x.cell) busy), λ server home site h. h)

-- what stands next in a segment
pub segment_in_store : (trees : List BlockTree) (turns : ℕ) (w : World) (e : Watch) (i : WatchStands trees turns w e) → ((a b : ℕ) → e.wakes a b ≡ []) → (s t : ℕ) (slot : Slot) → w.running s t ≡ Some slot → (op : Operation Ref) (hs : List (Frame Ref))
    → find same_ref slot.segment.depth slot.segment.self slot.segment.window ≡ Needs op hs → (k : WaitsBeside w.memory w.ended e t (self_at slot.segment.self hs) op) → InStoreToo k
segment_in_store trees turns w e i empty s t slot is op hs needs k =
    let c : Config = i.stands.config in
    in_store c w.memory w.ended e i.place t (self_at slot.segment.self hs) op i.stands.stands.memory i.watched i.slept empty (present turns w c s t slot op hs i.stands.stands is needs)
    (λ o q guard same. phase_of turns w c s t slot op hs o q i.stands.stands is needs (again_sleep op o q guard same)) k

-- what a request asks for
pub request_in_store : (trees : List BlockTree) (turns : ℕ) (w : World) (e : Watch) (i : WatchStands trees turns w e) → ((a b : ℕ) → e.wakes a b ≡ []) → (a b t k used depth : ℕ) (self : Self Ref) (op : Operation Ref) → w.waiting b t ≡ Some (record { from = a; packet = Request t k used depth self op })
    → (x : WaitsBeside w.memory w.ended e t self op) → InStoreToo x
request_in_store trees turns w e i empty a b t k used depth self op is x =
    let c : Config = i.stands.config in
    let takes = OffHold is in
    let d = stood_request turns w (park w b t None) c a b t k used depth self op i.stands.stands takes in
    in_store c w.memory w.ended e i.place t self op i.stands.stands.memory i.watched i.slept empty (present_abroad turns w (park w b t None) c a b t k used depth self op i.stands.stands takes)
    (λ o r guard same. asleep_before w.memory c t d.own o r d.stood.stood (wire_again d.own o r guard (d.asks ∙ same))) x

-- the thread of a request that is held
pub held_by : (turns : ℕ) (w : World) (c : Config) → Stands turns w c → (b t : ℕ) (x : Parked) (t2 k used depth : ℕ) (self : Self Ref) (op : Operation Ref) → w.waiting b t ≡ Some x → x.packet ≡ Request t2 k used depth self op → w.waiting b t2 ≡ Some (record { from = x.from; packet = Request t2 k used depth self op })
held_by turns w c st b t x t2 k used depth self op is e =
    let carries : Carries turns w.memory.heap w.pending t (slice_get c.threads t) x.from b x.packet = subst (StandsAt turns w.memory.heap w.pending t (slice_get c.threads t)) (st.placed.waits b t x is) (st.threads t) in
    let own : Carries turns w.memory.heap w.pending t (slice_get c.threads t) x.from b (Request t2 k used depth self op) = subst (Carries turns w.memory.heap w.pending t (slice_get c.threads t) x.from b) e carries in
    ap (w.waiting b) own.0 ∙ is ∙ ap (λ z. Some (record { from = x.from; packet = z })) e

pub watch_idle_is_over : WatchIdleIsOver
watch_idle_is_over trees turns w e i h =
    let c : Config = i.stands.config in
    let idle : IsIdle turns w = record {
      lines = h.lines;
      runs = λ s t slot is left. let q = h.runs s t slot is left in (q.0, q.1, q.2, (segment_in_store trees turns w e i h.wakes s t slot is q.0 q.1 q.2 q.3).0);
      waits = λ s t x is. waits s t x is x.packet refl (h.waits s t x is);
    } in
    (c, i.stands.replays, idle_is_over turns w c i.stands.stands idle)
  where
    waits : (b t : ℕ) (x : Parked) → w.waiting b t ≡ Some x → (p : Packet) → x.packet ≡ p → IsStuckBeside w.memory w.ended e x.packet → IsStuck w.memory w.ended x.packet
    waits b t x is (Request t2 k used depth self op) e2 stuck =
        let q : IsStuckBeside w.memory w.ended e (Request t2 k used depth self op) = subst (IsStuckBeside w.memory w.ended e) e2 stuck in
        subst (IsStuck w.memory w.ended) (sym e2) (q.0, (request_in_store trees turns w e i h.wakes x.from b t2 k used depth self op (held_by turns w i.stands.config i.stands.stands b t x t2 k used depth self op is e2) q.1).0)
    waits b t x is (Reply t2 k used o) e2 stuck = absurd (subst (IsStuckBeside w.memory w.ended e) e2 stuck)

-- ---- where a wake is

wake_place : (h : Heap) (f : Ref → ℕ) → Agrees f h → (states : ℕ → Option ThreadState) (u : ℕ) (o q : Ref) (y : Born) (pl : ℕ → Place) → Asleep h (states u) o q → (q.site ≡ o.site → ⊥) → h q ≡ Some y → Slept h states pl
    → (z : Place) → pl u ≡ z → Owed h (states u) u z → WakeIs u o q (in_line u (line_of (Some y.cell))) z
wake_place h f g states u o q y pl asleep far here sl Nowhere at k = StillLined (by (sl.sleep u) refl)
  where
    by : (d : Option (Ref × Ref)) → sl.sleep u ≡ d → in_line u (line_of (Some y.cell)) ≡ true
    by None e = absurd (sl.awake u e _ _ (asleep f g))
    by (Some p) e =
        let w = one_watch h f g (states u) o q p.0 p.1 asleep (sl.asleep u p.0 p.1 e) in
        sl.lined u p.0 p.1 y e (λ s. far (ap (λ (r : Ref). r.site) w.1 ∙ s ∙ ap (λ (r : Ref). r.site) (sym w.0))) at (ap h (sym w.1) ∙ here)
wake_place h f g states u o q y pl asleep far here sl Absent at k = absurd k
wake_place h f g states u o q y pl asleep far here sl (At a b) at k = absurd k
wake_place h f g states u o q y pl asleep far here sl (InLine a b p) at k =
    let w = one_watch h f g (states u) o q k.0 k.3.condition asleep k.3.asleep in
    let from : q.site ≡ a = ap (λ (r : Ref). r.site) w.1 ∙ k.3.from in
    let to : o.site ≡ b = ap (λ (r : Ref). r.site) w.0 ∙ k.3.to in
    let cells : k.3.cell ≡ y = some_born (h q) k.3.cell y (ap h w.1 ∙ k.3.here) here in
    let packet : wake u o ≡ p = ap (wake u) w.0 ∙ sym k.1 in
    subst (WakeIs u o q (in_line u (line_of (Some y.cell)))) (ap (λ n. InLine n o.site (wake u o)) from ∙ ap (λ n. InLine a n (wake u o)) to ∙ ap (InLine a b) packet)
    (OnItsWay (ap (λ (z : Born). in_line u (line_of (Some z.cell))) (sym cells) ∙ k.3.out))
wake_place h f g states u o q y pl asleep far here sl (WaitsAt b p) at k =
    let w = one_watch h f g (states u) o q k.0 k.4.condition asleep k.4.asleep in
    let to : o.site ≡ b = ap (λ (r : Ref). r.site) w.0 ∙ k.4.to in
    let cells : k.4.cell ≡ y = some_born (h q) k.4.cell y (ap h w.1 ∙ k.4.here) here in
    let packet : mark u o ≡ p = ap (mark u) w.0 ∙ sym k.1 in
    subst (WakeIs u o q (in_line u (line_of (Some y.cell)))) (ap (λ n. WaitsAt n (mark u o)) to ∙ ap (WaitsAt b) packet)
    (Arrived (ap (λ (z : Born). in_line u (line_of (Some z.cell))) (sym cells) ∙ k.4.out))
wake_place h f g states u o q y pl asleep far here sl (EndedAt a b) at k = absurd k

pub wake_exactly : WakeExactly
wake_exactly trees turns w e i u o q y asleep far here =
    let c : Config = i.stands.config in (
      wake_place w.memory.heap (reading w.memory 0) (reading_agrees w.memory c.store i.stands.stands.memory 0) (states_of c) u o q y i.place asleep far here i.slept (i.place u) refl (i.watched.owed u),
      i.watched.placed,
    )
