-- Works that a World takes in, over plain values.
use Rattle.std.specs.Prelude.{Bool, List, None, Option, Some, length, min, nat_lt, slice_get, ℕ, ◌&&◌, ◌+◌, ◌++◌, ◌-◌, ◌<◌, ◌≡◌, ◌≤◌, false}
use Rattle.std.proofs.Common.{ap, arith, get_or, refl, subst, sym, ◌∙◌}
use Rattle.std.proofs.lemmas.Bool.Decides.{nat_tests}
use Rattle.obq_base.specs.Tree.{BlockTree}
use Rattle.obq_base.specs.declared.acts.Act.{Act}
use Rattle.obq_base.specs.declared.acts.Entry.{Entry}
use Rattle.obq_model.proofs.Slices.{get_below}
use Rattle.obq_stands.specs.Sites.{assembled}
use Rattle.obq_stands.proofs.Next.{bounds_known}
use Rattle.obq_world.specs.Acts.{IsRunOn, Rewinds}
use Rattle.obq_world.specs.Claims.{Commits, CommitsSteps, DoneOrWaits, StandsAt, is_tried, turns_left}
use Rattle.obq_world.specs.Entries.{act_in, entries_of, stops_at_act}
use Rattle.obq_world.specs.Going.{ComesOf, IsNoted}
use Rattle.obq_world.specs.Meaning.{Meaning, Runs, StopsAs}
use Rattle.obq_world.specs.State.{State, WorldStands, used_in, version_in}
use Rattle.obq_world.specs.Work.{IsCut, TakesIn, WorkState, steps_in}
use Rattle.obq_world.specs.declared.claims.Done.{Done}
use Rattle.obq_world.specs.declared.claims.Done.TheVariants as done
use Rattle.obq_world.specs.declared.going.Gone.{Gone}
use Rattle.obq_world.specs.declared.lending.Ran.{Ran}
use Rattle.obq_world.specs.declared.machine.Slice.{Slice}
use Rattle.obq_world.specs.declared.machine.Tried.{Tried}
use Rattle.obq_world.specs.declared.machine.Tried.TheVariants as tried
use Rattle.obq_world.specs.declared.slots.ThreadSlot.{ThreadSlot}
use Rattle.obq_world.proofs.Onward.{there}
use Rattle.obq_world.proofs.Reading.{running}

abbrev slice_of : {W : Type 0} → Ran W → Slice
slice_of ran = record { steps = ran.steps; stop = ran.stop }

-- a window that was run apart and given back: so the site stands where its own run would have led
pub set_on : {C W S : Type 0} (m : Meaning C W S) (old : S) (t left : ℕ) (ran : Ran W) (mid : S) → ran.steps ≤ left → ((w : W) → m.windows old t ≡ Some w → Runs m w ran.steps ran.window) → StopsAs m ran.stop ran.window → Rewinds m old t ran.window mid
    → IsRunOn m old t left (slice_of ran) mid
set_on m old t left ran mid few runs stops r = record { few = few; window = ran.window; runs = runs; stops = stops; rewinds = r }

pub left_for : {C W S : Type 0} (m : Meaning C W S) (blocks : List BlockTree) (turns limit : ℕ) (w : State S) (t : ℕ) (x : ThreadSlot) (n : ℕ) → WorldStands m blocks turns w → limit ≡ turns → t < length w.slots → x ≡ get_or w.slots t x
    → used_in (slice_get w.slots t) + n ≤ turns → n ≤ limit - x.used
left_for m blocks turns limit w t x n inv same lt is fits =
    let at = there m blocks turns w t x inv lt is in
    let used : used_in (slice_get w.slots t) ≡ x.used = ap used_in at.0 in
    omega (arith, fits, used, same)

pub turns_left_at : {C W S : Type 0} (m : Meaning C W S) (blocks : List BlockTree) (turns limit : ℕ) (w : State S) (t : ℕ) (x : ThreadSlot) → WorldStands m blocks turns w → limit ≡ turns → t < length w.slots → x ≡ get_or w.slots t x → limit - x.used ≡ turns_left turns w t
turns_left_at m blocks turns limit w t x inv same lt is = let at = there m blocks turns w t x inv lt is in ap (λ n. n - x.used) same ∙ ap (λ u. turns - u) (sym (ap used_in at.0))

pub steps_commit : {C W S : Type 0} (m : Meaning C W S) (blocks : List BlockTree) (turns limit threads : ℕ) (w : State S) (t : ℕ) (x : ThreadSlot) (ran : Ran W) (gone : Gone) (site : S) (slots2 : List ThreadSlot) (journal2 : List Entry) (count : ℕ)
    → WorldStands m blocks turns w → limit ≡ turns → t < length w.slots → x ≡ get_or w.slots t x → TakesIn m w.site t (limit - x.used) w.cells threads ran gone site → IsNoted w.slots w.journal w.cells t gone slots2 journal2 count
    → CommitsSteps m turns w t ran (record { site = site; slots = slots2; cells = count; journal = journal2 })
steps_commit m blocks turns limit threads w t x ran gone site slots2 journal2 count inv same lt is takes noted =
    record { act = act_in gone.tried; journal = noted.journal_is ∙ ap (λ n. w.journal ++ entries_of t n (act_in gone.tried)) takes.steps; has_act = by gone.tried takes.goes.comes }
  where
    tests : (nat_lt gone.steps (limit - x.used) && stops_at_act gone.stop) ≡ is_tried (turns_left turns w t) (done.Steps ran)
    tests = let steps = takes.steps in let stop = takes.stop in let left = turns_left_at m blocks turns limit w t x inv same lt is in rw (steps, stop, left) refl

    by : (z : Tried) → ComesOf m w.site t takes.goes.window w.cells threads (nat_lt gone.steps (limit - x.used) && stops_at_act gone.stop) z site
        → DoneOrWaits m (is_tried (turns_left turns w t) (done.Steps ran)) t (act_in z) (record { site = site; slots = slots2; cells = count; journal = journal2 })
    by (tried.Did a made) h = sym tests ∙ h.0
    by tried.Waits h = λ told. h.1 (tests ∙ told)

-- ---- a work's thread

-- a thread with a window is there
in_range : {C W S : Type 0} (m : Meaning C W S) (blocks : List BlockTree) (turns : ℕ) (w : State S) (t : ℕ) (x : W) → WorldStands m blocks turns w → m.windows w.site t ≡ Some x → t < length w.slots
in_range m blocks turns w t x inv here =
    let r = running m (used_in (slice_get w.slots t)) (m.windows w.site t) ((inv.sites 0).running t) x (inv.reads.threads t) here in
    let below = ((bounds_known blocks turns (assembled inv.sites inv.rest) inv.stands).used 0 t r.slot r.here).0 in
    let n = inv.threads in
    omega (arith, below, n)

no_version : (slots : List ThreadSlot) (t : ℕ) → length slots ≤ t → 0 ≡ version_in (slice_get slots t)
no_version slots t le = by (slice_get slots t) refl
  where
    by : (o : Option ThreadSlot) → slice_get slots t ≡ o → 0 ≡ version_in o
    by None e = refl
    by (Some x) e = let lt = get_below slots t x e in absurd (omega (arith, lt, le))

-- a work on a thread that isn't there
pub stale_by_number : {C W S : Type 0} (m : Meaning C W S) (blocks : List BlockTree) (turns : ℕ) (w : State S) (work : WorkState W) → WorldStands m blocks turns w → length w.slots ≤ work.thread
    → (w ≡ w) × (StandsAt m w work → ⊥) × (0 ≡ version_in (slice_get w.slots work.thread))
stale_by_number m blocks turns w work inv le =
    (refl, λ here. let lt = in_range m blocks turns w work.thread work.start inv here in absurd (omega (arith, lt, le)), no_version w.slots work.thread le)

-- or that stands elsewhere
pub stale_by_window : {C W S : Type 0} (m : Meaning C W S) (blocks : List BlockTree) (turns : ℕ) (w : State S) (work : WorkState W) (x : ThreadSlot) → WorldStands m blocks turns w → work.thread < length w.slots → x ≡ get_or w.slots work.thread x → (StandsAt m w work → ⊥)
    → (w ≡ w) × (StandsAt m w work → ⊥) × (x.version ≡ version_in (slice_get w.slots work.thread))
stale_by_window m blocks turns w work x inv lt is elsewhere = (refl, elsewhere, sym (ap version_in (there m blocks turns w work.thread x inv lt is).0))

pub fits_for : {C W S : Type 0} (m : Meaning C W S) (blocks : List BlockTree) (turns limit : ℕ) (w : State S) (t : ℕ) (x : ThreadSlot) (n : ℕ) → WorldStands m blocks turns w → limit ≡ turns → t < length w.slots → x ≡ get_or w.slots t x
    → n ≤ limit - x.used → used_in (slice_get w.slots t) + n ≤ turns
fits_for m blocks turns limit w t x n inv same lt is le =
    let at = there m blocks turns w t x inv lt is in
    let used : used_in (slice_get w.slots t) ≡ x.used = ap used_in at.0 in
    let own = at.1 in
    omega (arith, le, used, same, own)

pub cut_fits : {C W S : Type 0} (m : Meaning C W S) (blocks : List BlockTree) (turns limit : ℕ) (w : State S) (work short : WorkState W) (x : ThreadSlot) → WorldStands m blocks turns w → limit ≡ turns → work.thread < length w.slots → x ≡ get_or w.slots work.thread x
    → IsCut work (limit - x.used) short → used_in (slice_get w.slots short.thread) + steps_in short.done ≤ turns
cut_fits m blocks turns limit w work short x inv same lt is cut =
    let steps = cut.steps in
    let thread = cut.thread in
    rw (steps, thread) (fits_for m blocks turns limit w work.thread x (limit - x.used) inv same lt is (omega arith))

-- ---- a work that was cut

never : (n : ℕ) (b : Bool) → (nat_lt n n && b) ≡ false
never n b = let e : nat_lt n n ≡ false = grind (arith, nat_tests) in rw e refl

cut_tried : {W : Type 0} (left : ℕ) (d : Done W) → steps_in d ≡ left → is_tried left d ≡ false
cut_tried left (done.Steps ran) e = rw e (never left (stops_at_act ran.stop))
cut_tried left done.NoMemory e = refl

more_tried : {W : Type 0} (left : ℕ) (d : Done W) → left ≤ steps_in d → is_tried left d ≡ false
more_tried left (done.Steps ran) le = let e : nat_lt ran.steps left ≡ false = grind (arith, nat_tests, le) in rw e refl
more_tried left done.NoMemory le = refl

pub cut_commits : {C W S : Type 0} (m : Meaning C W S) (turns left : ℕ) (old : State S) (work short : WorkState W) (new : State S) → left ≡ turns_left turns old work.thread → IsCut work left short → left ≤ steps_in work.done
    → Commits m turns old short new → Commits m turns old work new
cut_commits m turns left old work short new is cut le h =
    let thread = cut.thread in
    let steps = cut.steps in
    let there : turns_left turns old short.thread ≡ left = ap (turns_left turns old) thread ∙ sym is in
    let none : is_tried (turns_left turns old short.thread) short.done ≡ false = cut_tried (turns_left turns old short.thread) short.done (steps ∙ sym there) in
    let none2 : is_tried (turns_left turns old work.thread) work.done ≡ false = more_tried (turns_left turns old work.thread) work.done (subst (λ n. n ≤ steps_in work.done) is le) in
    let few : min (steps_in short.done) (turns_left turns old short.thread) ≡ min (steps_in work.done) (turns_left turns old work.thread) = omega (arith, there, steps, is, le) in
    by h.act h.has_act none none2 (rw (few, thread) at h.journal)
  where
    at : StandsAt m old work
    at = let s = h.stands in let thread = cut.thread in let start = cut.start in rw (thread, start) at s

    by : (a : Option Act) → DoneOrWaits m (is_tried (turns_left turns old short.thread) short.done) short.thread a new → is_tried (turns_left turns old short.thread) short.done ≡ false → is_tried (turns_left turns old work.thread) work.done ≡ false
        → new.journal ≡ old.journal ++ entries_of work.thread (min (steps_in work.done) (turns_left turns old work.thread)) a → Commits m turns old work new
    by (Some a) told none none2 journal = absurd (cc (none, told))
    by None waits none none2 journal = record { stands = at; act = None; journal = journal; has_act = λ told. absurd (cc (none2, told)) }
