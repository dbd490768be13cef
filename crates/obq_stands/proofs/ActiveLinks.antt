-- The activations of a suspended segment are those around its hole, so the site of the innermost link of a chain stands first.
use Rattle.std.specs.Prelude.{List, Option, Some, None, ◌∷◌, ◌++◌, ℕ, suc, length, refl, replicate, ◌≡◌}
use Rattle.std.proofs.Common.{inl, inr, ap, sym, ◌∙◌, subst}
use Rattle.obq_base.specs.Tree.{BlockTree}
use Rattle.obq_model.specs.Step.{Self, Operation, Frame, Needs, find, activations_at}
use Rattle.obq_model.specs.Located.{activations_of, site_here}
use Rattle.obq_stands.specs.World.{Ref, same_ref, PendingCall, Segment, Slot, Suspended, MayAsk, Request, Reply, World}
use Rattle.obq_stands.specs.Stands.{Link, Table, Chained, StandsFor}
use Rattle.obq_stands.specs.Events.{Step, Steps, Acted, Forks, Finishes, Asks, Serves, Enters, Holds, Returns, Resumes, Run, Begin, Then, windows, world_at}
use Rattle.obq_stands.specs.Around.{ArePendingBare}
use Rattle.obq_stands.specs.Begun.{IsEntered, HasBegun, AreBegun}
use Rattle.obq_stands.specs.CellSites.{IsNext}
use Rattle.obq_stands.specs.AtSites.{sites_around, IsSited, AreSited}
use Rattle.obq_stands.proofs.BareFrames.{every_run_bare}
use Rattle.obq_stands.proofs.Chains.{bottom}
use Rattle.obq_stands.proofs.Entered.{put_all_so, drop_all_so}
use Rattle.obq_stands.proofs.Moves.{out_packet}
use Rattle.obq_stands.proofs.Opening.{every_run_stands}
use Rattle.obq_stands.proofs.SegmentTrails.{head_is, active, left_quiet}
use Rattle.obq_stands.proofs.TrailEvents.{asked_acts, same_frames}

-- the activations of a segment that waits are around its hole
abbrev pub IsActive : Segment → Type 0
IsActive seg = (op : Operation Ref) (hs : List (Frame Ref)) → find same_ref seg.depth seg.self seg.window ≡ Needs op hs → activations_of seg.window ≡ activations_at 0 hs

abbrev ActiveSuspended : Suspended → Type 0
ActiveSuspended e = IsActive e.segment

-- so in all suspended segments
abbrev pub AreActive : World → Type 0
AreActive w = (s k : ℕ) (e : Suspended) → w.pending s k ≡ Some e → IsActive e.segment

taken_active : (w w1 : World) → w1.pending ≡ w.pending → AreActive w → AreActive w1
taken_active w w1 p h s k e is = h s k e (ap (λ (f : Table). f s k) (sym p) ∙ is)

asks_active : (trees : List BlockTree) (turns : ℕ) (w : World) (inv : StandsFor trees turns w) (s t : ℕ) (slot : Slot) (op : Operation Ref) (hs : List (Frame Ref)) → ArePendingBare w → w.running s t ≡ Some slot → MayAsk op
    → find same_ref slot.segment.depth slot.segment.self slot.segment.window ≡ Needs op hs → IsActive slot.segment
asks_active trees turns w inv s t slot op hs bare is may needs op2 hs2 e = asked_acts trees turns w inv s t slot op hs bare is may needs ∙ ap (activations_at 0) (same_frames slot.segment slot.segment op op2 hs hs2 refl needs e)

active_kept : (trees : List BlockTree) (turns : ℕ) (w x : World) → StandsFor trees turns w → ArePendingBare w → AreActive w → (e : Step turns w x) → IsSited (length trees) e → AreActive x
active_kept trees turns w x inv bare h (Steps _ s t n slot u is few e) sited = h
active_kept trees turns w x inv bare h (Acted _ s t n slot u op hs kind loc m y is few e needs does) sited = h
active_kept trees turns w x inv bare h (Forks _ s t n slot u v hs is few e needs room) sited = h
active_kept trees turns w x inv bare h (Finishes _ s t n slot u e is none few steps ends) sited = h
active_kept trees turns w x inv bare h (Asks _ s t to k slot op hs is few needs free) sited = put_all_so ActiveSuspended w.pending s k (record { thread = t; segment = slot.segment }) h (asks_active trees turns w inv s t slot op hs bare is sited needs)
active_kept trees turns w x inv bare h (Serves _ w1 a b t k used depth self op kind loc m y o takes may does gives) sited = taken_active w w1 (out_packet turns w inv.config a b (Request t k used depth self op) w1 inv.stands takes).pending h
active_kept trees turns w x inv bare h (Enters _ w1 a b t k used depth self op kind loc m y z takes call does enters) sited = taken_active w w1 (out_packet turns w inv.config a b (Request t k used depth self op) w1 inv.stands takes).pending h
active_kept trees turns w x inv bare h (Holds _ w1 a b t k used depth self op takes) sited = taken_active w w1 (out_packet turns w inv.config a b (Request t k used depth self op) w1 inv.stands takes).pending h
active_kept trees turns w x inv bare h (Returns _ s t slot call o is answers out) sited = h
active_kept trees turns w x inv bare h (Resumes _ w1 a b t k used o e op hs takes here needs) sited =
    drop_all_so ActiveSuspended w1.pending b k (taken_active w w1 (out_packet turns w inv.config a b (Reply t k used o) w1 inv.stands takes).pending h)

pub every_run_active : (trees : List BlockTree) (turns : ℕ) (w : World) (r : Run turns (world_at (windows 0 trees)) w) → AreSited (length trees) r → AreActive w
every_run_active trees turns w Begin sited = λ s k e is. absurd (cc is)
every_run_active trees turns w (Then {v = v} run e) sited = active_kept trees turns v w (every_run_stands trees turns v run) (every_run_bare trees turns v run) (every_run_active trees turns v run sited.0) e sited.1

-- a segment that answers a call, and waits, is an activation
pub waits_inside : (seg : Segment) (op : Operation Ref) (hs : List (Frame Ref)) → IsEntered seg.window → find same_ref seg.depth seg.self seg.window ≡ Needs op hs → (m : ℕ) × (activations_of seg.window ≡ suc m)
waits_inside seg op hs (inl h) needs = active seg.window h
waits_inside seg op hs (inr h) needs = absurd (left_quiet same_ref seg.depth seg.self seg.window h (subst IsNext (sym needs) tt))

-- the innermost link's site stands first
pub chain_here : (w : World) (t d s : ℕ) (self : Self Ref) (a : Option PendingCall) (l : Link) (ls : List Link) → AreActive w → AreBegun w → Chained w.pending t d self a (l ∷ ls) → site_here (sites_around s (l ∷ ls)) ≡ l.key.site
chain_here w t d s self None l ls act begun ch = absurd ch
chain_here w t d s self (Some k) l ls act begun ch = by (begun.pends l.key.site l.key.number (record { thread = t; segment = l.segment }) ch.1.here)
  where
    by : HasBegun l.segment → site_here (replicate (activations_at 0 l.frames) l.key.site ++ sites_around l.key.site ls) ≡ l.key.site
    by (inl none) = head_is (activations_at 0 l.frames) l.key.site (sites_around l.key.site ls) (ap (λ (z : List Link). site_here (sites_around l.key.site z)) (bottom w.pending t l.segment.depth l.segment.self l.segment.answers ls none ch.5).0)
    by (inr entered) =
        let k2 = waits_inside l.segment l.op l.frames entered ch.1.needs in
        ap (λ n. site_here (replicate n l.key.site ++ sites_around l.key.site ls)) (sym (act l.key.site l.key.number (record { thread = t; segment = l.segment }) ch.1.here l.op l.frames ch.1.needs) ∙ k2.1)
