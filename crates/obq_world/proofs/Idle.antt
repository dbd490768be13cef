-- Where each thread has stopped, the journal replays to a configuration that is over.
use Rattle.std.specs.Prelude.{Any, Bool, List, MatchBool, None, Option, Some, false, length, nat_lt, slice_get, true, ℕ, ◌<◌, ◌≡◌, ◌≤◌, ◌⊎◌}
use Rattle.std.proofs.Common.{ap, arith, get_or, inl, inr, refl, subst, sym, ◌∙◌}
use Rattle.std.proofs.lemmas.Bool.Decides.{nat_tests}
use Rattle.std.proofs.lemmas.Option.{get_or_from_slice_get, slice_get-get_or}
use Rattle.obq_base.specs.Tree.{BlockTree}
use Rattle.obq_model.specs.Cells.{import_row}
use Rattle.obq_model.specs.Step.{Operation, Self, self_at}
use Rattle.obq_model.proofs.Slices.{get_below}
use Rattle.obq_stands.specs.Over.{HasStopped, ImportWaits, IsStuck, JoinWaits, OnCellWaits, RetakeWaits, Waits}
use Rattle.obq_stands.specs.Sites.{Rest, Site, assembled}
use Rattle.obq_stands.specs.World.{Born, Ending, Ends, Idle, Parked, Ref, Slot}
use Rattle.obq_stands.proofs.Next.{bounds_known}
use Rattle.obq_stands.proofs.Over.{idle_replays_over}
use Rattle.obq_stands.proofs.Update.{same_or}
use Rattle.obq_world.specs.Acts.{AgainWaits, AtCellWaits, ImportingWaits, JoiningWaits, WaitsHere, WaitsIn}
use Rattle.obq_world.specs.Calls.{AllIdle, AllStopped, IsStopped, NobodyClaims}
use Rattle.obq_world.specs.Meaning.{Meaning}
use Rattle.obq_world.specs.State.{EndsOver, IsAlone, SiteReads, State, WasOver, WorldStands, used_in}
use Rattle.obq_world.specs.declared.slots.ThreadSlot.{ThreadSlot}
use Rattle.obq_world.proofs.Reading.{running, windowed}

at_home : (sites : ℕ → Site) (r : Ref) (x : Born) → r.site ≡ 0 → (sites 0).heap r ≡ Some x → (sites r.site).heap r ≡ Some x
at_home sites r x p h = ap (λ s. (sites s).heap r) p ∙ h

-- an operation that waits at the site waits in the World of all sites
waits_of : {C W S : Type 0} (m : Meaning C W S) (sites : ℕ → Site) (rest : Rest) (site : S) (slots : List ThreadSlot) (t : ℕ) (z : Self Ref) (op : Operation Ref)
    → SiteReads m (sites 0) rest.names site slots → IsAlone sites rest → WaitsIn m site (sites 0).heap t z op → Waits (assembled sites rest).memory (assembled sites rest).ended t z op
waits_of m sites rest site slots t z op reads alone (AtCellWaits _ r x home of here row) = OnCellWaits op r x of (at_home sites r x home here) row
waits_of m sites rest site slots t z op reads alone (AgainWaits o c guard x y home1 home2 here there row) = RetakeWaits o c guard x y (at_home sites o x home1 here) (at_home sites c y home2 there) row
waits_of m sites rest site slots t z op reads alone (ImportingWaits x engine none_kept) = ImportWaits x engine (ap (import_row Ends Idle engine) (none_kept rest.names reads.names))
waits_of m sites rest site slots t z op reads alone (JoiningWaits v none_kept) = JoinWaits v (λ b. none b (same_or b 0))
  where
    none_by : (o : Option Ending) → m.ended site v o → o ≡ None
    none_by None h = refl
    none_by (Some e) h = absurd (none_kept e h)

    none : (b : ℕ) → ((b ≡ 0) ⊎ (b ≡ 0 → ⊥)) → (sites b).ended v ≡ None
    none b (inl p) = ap (λ s. (sites s).ended v) p ∙ none_by ((sites 0).ended v) (reads.ended v)
    none b (inr ne) = alone.ends b v ne

too_many : (used turns : ℕ) → nat_lt used turns ≡ true → turns ≤ used → ⊥
too_many used turns e le = grind (arith, nat_tests)

-- a segment at the site that has stopped there
stopped_by : {C W S : Type 0} (m : Meaning C W S) (blocks : List BlockTree) (turns : ℕ) (w : State S) (inv : WorldStands m blocks turns w) (t used : ℕ) (slot : Slot) (x : W) → slot.used ≡ used → m.windows w.site t ≡ Some x
    → m.reads x slot.segment.depth slot.segment.self slot.segment.window → ((turns ≤ used) ⊎ WaitsHere m w.site t) → HasStopped turns (assembled inv.sites inv.rest).memory (assembled inv.sites inv.rest).ended t slot
stopped_by m blocks turns w inv t used slot x same here reads (inl le) more = absurd (too_many slot.used turns more (omega (arith, same, le)))
stopped_by m blocks turns w inv t used slot x same here reads (inr waits) more =
    let q = waits (inv.sites 0).heap x slot.segment.depth slot.segment.self slot.segment.window inv.reads.heap here reads in
    (q.0, q.1, q.2, waits_of m inv.sites inv.rest w.site w.slots t (self_at slot.segment.self q.1) q.0 inv.reads inv.alone q.3)

abbrev no_slot : ThreadSlot
no_slot = record { used = 0; version = 0; claimed = false }

stuck : {C W S : Type 0} (m : Meaning C W S) (blocks : List BlockTree) (turns : ℕ) (w : State S) (inv : WorldStands m blocks turns w) → AllStopped m w.site w.slots turns → (t : ℕ) (slot : Slot) → (inv.sites 0).running t ≡ Some slot
    → HasStopped turns (assembled inv.sites inv.rest).memory (assembled inv.sites inv.rest).ended t slot
stuck m blocks turns w inv stopped t slot e =
    let at = windowed m (used_in (slice_get w.slots t)) (m.windows w.site t) ((inv.sites 0).running t) slot (inv.reads.threads t) e in
    let r = running m (used_in (slice_get w.slots t)) (m.windows w.site t) ((inv.sites 0).running t) at.0 (inv.reads.threads t) at.1 in
    let same : r.slot ≡ slot = let h = r.here in cc (h, e) in
    let below = ((bounds_known blocks turns (assembled inv.sites inv.rest) inv.stands).used 0 t slot e).0 in
    let n = inv.threads in
    let lt : t < length w.slots = omega (arith, below, n) in
    let own : ThreadSlot = get_or w.slots t no_slot in
    let at_slot : slice_get w.slots t ≡ Some own = slice_get-get_or w.slots t no_slot lt in
    let used : slot.used ≡ own.used = sym (ap (λ (y : Slot). y.used) same) ∙ r.segment.same ∙ ap used_in at_slot in
    let reads = subst (λ (y : Slot). m.reads at.0 y.segment.depth y.segment.self y.segment.window) same r.segment.reads in
    stopped_by m blocks turns w inv t own.used slot at.0 used at.1 reads (stopped t own at_slot at)

pub idle : {C W S : Type 0} (m : Meaning C W S) (blocks : List BlockTree) (turns : ℕ) (w : State S) → WorldStands m blocks turns w → AllStopped m w.site w.slots turns → EndsOver blocks turns w.journal
idle m blocks turns w inv stopped =
    let over = idle_replays_over blocks turns (assembled inv.sites inv.rest) inv.stands (record { lines = inv.alone.lines; runs = λ s t slot e. runs s t slot e (same_or s 0); waits = waits }) in
    subst (EndsOver blocks turns) inv.journal over
  where
    runs : (s t : ℕ) (slot : Slot) → (inv.sites s).running t ≡ Some slot → ((s ≡ 0) ⊎ (s ≡ 0 → ⊥)) → HasStopped turns (assembled inv.sites inv.rest).memory (assembled inv.sites inv.rest).ended t slot
    runs s t slot e (inl p) = stuck m blocks turns w inv stopped t slot (sym (ap (λ j. (inv.sites j).running t) p) ∙ e)
    runs s t slot e (inr ne) = let no = inv.alone.runs s t ne in absurd (cc (no, e))

    waits : (s t : ℕ) (x : Parked) → (inv.sites s).waiting t ≡ Some x → IsStuck (assembled inv.sites inv.rest).memory (assembled inv.sites inv.rest).ended x.packet
    waits s t x e = let no = inv.alone.waits s t in absurd (cc (no, e))

-- so it is where no claim is out and each thread without one has stopped
pub over_told : {C W S : Type 0} (m : Meaning C W S) (blocks : List BlockTree) (turns limit : ℕ) (w : State S) (out : Bool)
    → WorldStands m blocks turns w → limit ≡ turns → AllIdle m w.site w.slots limit → MatchBool out (Any (λ s. s.claimed ≡ true) w.slots) (NobodyClaims w.slots) → out ≡ false → EndsOver blocks turns w.journal
over_told m blocks turns limit w true inv limit_is rest claims out = absurd (cc out)
over_told m blocks turns limit w false inv limit_is rest claims out = idle m blocks turns w inv stopped
  where
    stopped : AllStopped m w.site w.slots turns
    stopped t slot e =
        let lt : t < length w.slots = get_below w.slots t slot e in
        let free : slot.claimed ≡ false = subst (λ (s : ThreadSlot). s.claimed ≡ false) (get_or_from_slice_get w.slots t slot slot e) (claims t slot lt) in
        subst (λ n. IsStopped m w.site slot n t) limit_is (rest t slot e free)

pub seen_over : {C W S : Type 0} (m : Meaning C W S) (blocks : List BlockTree) (turns limit : ℕ) (w : State S) (out : Bool) (entries : ℕ)
    → WorldStands m blocks turns w → limit ≡ turns → AllIdle m w.site w.slots limit → MatchBool out (Any (λ s. s.claimed ≡ true) w.slots) (NobodyClaims w.slots) → out ≡ false → entries ≡ length w.journal → WasOver blocks turns entries
seen_over m blocks turns limit w out entries inv limit_is rest claims none long =
    let over = over_told m blocks turns limit w out inv limit_is rest claims none in
    (w.journal, over.0, sym long, over.1, over.2)
