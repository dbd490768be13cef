-- What a site may rely on in an act, and the bounds of a World.
use Rattle.std.specs.Prelude.{List, None, Some, [], length, slice_get, ℕ, ◌*◌, ◌+◌, ◌++◌, ◌<◌, ◌∷◌, ◌≡◌, ◌≤◌, ◌^◌}
use Rattle.std.proofs.Common.{ap, arith, subst, sym, ◌∙◌}
use Rattle.obq_base.specs.Tree.{BlockTree}
use Rattle.obq_laws.specs.Determinism.{entry_of}
use Rattle.obq_laws.specs.Known.{IsKnownFound, IsKnownSelf, Numbered}
use Rattle.obq_laws.proofs.KnownStep.{known_find}
use Rattle.obq_model.specs.Config.{Config}
use Rattle.obq_model.specs.Step.{Frame, Needs, Operation, Self, find, no_self}
use Rattle.obq_stands.specs.Events.{moved}
use Rattle.obq_stands.specs.Facts.{InSegment, IsCellOf, IsNext}
use Rattle.obq_stands.specs.Sites.{Rest, Site, assembled, runs_at}
use Rattle.obq_stands.specs.Stands.{Chained, Link, Stands, StandsFor, Table}
use Rattle.obq_stands.specs.World.{Ref, Slot, World, same_ref, with_at}
use Rattle.obq_stands.proofs.Assembled.{site_steps}
use Rattle.obq_stands.proofs.Kept.{step_keeps}
use Rattle.obq_stands.proofs.Known.{window_known}
use Rattle.obq_stands.proofs.Moves.{out_running}
use Rattle.obq_stands.proofs.Next.{bounds_known, not_yet_in_line, owner_known}
use Rattle.obq_stands.proofs.Presence.{present}
use Rattle.obq_stands.proofs.Update.{with_at_same}
use Rattle.obq_world.specs.Acts.{CanAct, MayDo}
use Rattle.obq_world.specs.Meaning.{Meaning, Runs}
use Rattle.obq_world.specs.State.{State, WorldStands}
use Rattle.obq_world.specs.declared.slots.ThreadSlot.{ThreadSlot}
use Rattle.obq_world.proofs.Keeps.{ahead}

-- ---- bounds

pub few_threads : {C W S : Type 0} (m : Meaning C W S) (blocks : List BlockTree) (turns : ℕ) (w : State S) → WorldStands m blocks turns w → length w.slots ≤ 64
few_threads m blocks turns w inv =
    let b = (bounds_known blocks turns (assembled inv.sites inv.rest) inv.stands).threads in
    let one = inv.one in
    let n = inv.threads in
    omega (arith, b, one, n)

product : (n turns : ℕ) → n ≤ 64 → turns ≤ 1000000 → n * turns ≤ 64 * 1000000
product n turns a b = grind (arith, a, b)

pub few_cells : {C W S : Type 0} (m : Meaning C W S) (blocks : List BlockTree) (turns : ℕ) (w : State S) → WorldStands m blocks turns w → w.cells + 1 < 2 ^ 32
few_cells m blocks turns w inv =
    let b = (bounds_known blocks turns (assembled inv.sites inv.rest) inv.stands).cells in
    let few : inv.rest.threads ≤ 64 = subst (λ n. n ≤ 64) (sym inv.threads) (few_threads m blocks turns w inv) in
    let most = product inv.rest.threads turns few inv.limit in
    let one = inv.one in
    let cells = inv.cells in
    omega (arith, b, most, one, cells)

-- ---- what stands next

outside : (p : Table) (t depth : ℕ) (self : Self Ref) (links : List Link) → Chained p t depth self None links → self ≡ no_self
outside p t depth self [] h = h.1
outside p t depth self (l ∷ ls) h = absurd h

bottom_self : (turns : ℕ) (w : World) (c : Config) (s t : ℕ) (slot : Slot) → Stands turns w c → w.running s t ≡ Some slot → slot.segment.answers ≡ None → slot.segment.self ≡ no_self
bottom_self turns w c s t slot st is none =
    let goes = (out_running turns w c s t slot st is).1 in
    outside w.pending t slot.segment.depth slot.segment.self goes.reads.links (subst (λ a. Chained w.pending t slot.segment.depth slot.segment.self a goes.reads.links) none goes.reads.chained)

-- in a World that stands a thread at its bottom may do what stands next
may_do : (blocks : List BlockTree) (turns : ℕ) (w : World) (s t : ℕ) (slot : Slot) (op : Operation Ref) (hs : List (Frame Ref)) → StandsFor blocks turns w → w.running s t ≡ Some slot → slot.segment.answers ≡ None
    → find same_ref slot.segment.depth slot.segment.self slot.segment.window ≡ Needs op hs → MayDo blocks w.threads w.memory.heap t op
may_do blocks turns w s t slot op hs i is none needs =
    let next : IsNext w t op = InSegment s slot op hs is needs in
    let self : IsKnownSelf (IsCellOf w.memory.heap) slot.segment.self.object = subst (λ (z : Self Ref). IsKnownSelf (IsCellOf w.memory.heap) z.object) (sym (bottom_self turns w i.config s t slot i.stands is none)) tt in
    let found = known_find (IsCellOf w.memory.heap) (Numbered blocks w.threads) same_ref slot.segment.depth slot.segment.self slot.segment.window self (window_known blocks turns w s t slot i is) in
    let known : IsKnownFound (IsCellOf w.memory.heap) (Numbered blocks w.threads) (Needs op hs) = subst (IsKnownFound (IsCellOf w.memory.heap) (Numbered blocks w.threads)) needs found in
    record {
      present = present turns w i.config s t slot op hs i.stands is needs;
      known = known.0;
      owner = λ o e. owner_known blocks turns w t op o i next e;
      unlined = λ o c guard e q y here. not_yet_in_line blocks turns w t o c guard q y i (subst (IsNext w t) e next) here;
    }

-- so it may n pure steps ahead, since they could be an entry of their own
pub can_act : {C W S : Type 0} (m : Meaning C W S) (blocks : List BlockTree) (turns : ℕ) (w : State S) (t n : ℕ) (x : ThreadSlot) (start window : W)
    → WorldStands m blocks turns w → m.windows w.site t ≡ Some start → Runs m start n window → slice_get w.slots t ≡ Some x → x.used + n ≤ turns → CanAct m blocks (length w.slots) w.site t window
can_act m blocks turns w t n x start window inv here runs at fits =
    let a = ahead m blocks turns w t n x start window inv here runs at in
    let i = a.inv in
    let used : a.slot.used ≡ x.used = a.used in
    let slot2 : Slot = moved a.slot n a.term in
    let sites2 : ℕ → Site = with_at i.sites 0 (runs_at i.sites 0 t (Some slot2)) in
    let rest2 : Rest = record i.rest { journal = i.rest.journal ++ entry_of t n None ∷ [] } in
    let w2 : World = assembled sites2 rest2 in
    let stands : StandsFor blocks turns w2 = step_keeps blocks turns (assembled i.sites i.rest) w2 i.stands (site_steps turns i.sites i.rest 0 t n a.slot a.term a.here (omega (arith, used, fits)) a.steps).0 in
    let there : w2.running 0 t ≡ Some slot2 = ap (λ (z : Site). z.running t) (with_at_same i.sites 0 (runs_at i.sites 0 t (Some slot2))) ∙ with_at_same (i.sites 0).running t (Some slot2) in
    record {
      here = (i.sites 0).heap;
      all = w2.memory.heap;
      depth = a.slot.segment.depth;
      self = a.slot.segment.self;
      term = a.term;
      heap = i.reads.heap;
      same = λ r home. ap (λ s. (sites2 s).heap r) home ∙ ap (λ (z : Site). z.heap r) (with_at_same i.sites 0 (runs_at i.sites 0 t (Some slot2)));
      reads = a.reads;
      may = λ op hs needs. subst (λ k. MayDo blocks k w2.memory.heap t op) i.threads (may_do blocks turns w2 0 t slot2 op hs stands there a.bottom needs);
    }
