-- What the calls of a World for its workers do.
use Rattle.std.specs.Prelude.{Any, length, min, Result, Ok, Err, Bool, Option, Some, None, true, false, ◌++◌, ℕ, slice_get, IsTrue, nat_lt, ◌&&◌, ◌-◌, ◌≡◌}
use Rattle.obq_base.specs.declared.acts.Act.{Act}
use Rattle.obq_base.specs.declared.memory.NoMemory.{NoMemory}
use Rattle.obq_world.specs.declared.claims.Done.{Done}
use Rattle.obq_world.specs.declared.claims.Done.TheVariants as done
use Rattle.obq_world.specs.declared.claiming.Committed.{Committed}
use Rattle.obq_world.specs.declared.claiming.Committed.TheVariants as committed
use Rattle.obq_world.specs.declared.claiming.Picked.{Picked}
use Rattle.obq_world.specs.declared.claiming.Picked.TheVariants as picked
use Rattle.obq_world.specs.declared.lending.Ran.{Ran}
use Rattle.obq_world.specs.Acts.{WaitsHere}
use Rattle.obq_world.specs.Entries.{entries_of, stops_at_act}
use Rattle.obq_world.specs.Meaning.{Meaning}
use Rattle.obq_world.specs.State.{State, used_in, version_in}
use Rattle.obq_world.specs.Work.{WorkState, steps_in}

-- the thread's window is the work's start
abbrev pub StandsAt : {C W S : Type 0} → Meaning C W S → State S → WorkState W → Type 0
StandsAt m old work = m.windows old.site work.thread ≡ Some work.start

-- an act is tried behind so many steps, of so many turns that are left
abbrev pub is_tried : (left : ℕ) → {W : Type 0} → Done W → Bool
is_tried left (done.Steps ran) = nat_lt ran.steps left && stops_at_act ran.stop
is_tried left done.NoMemory = false

abbrev pub turns_left : {S : Type 0} → (turns : ℕ) → State S → ℕ → ℕ
turns_left turns w t = turns - used_in (slice_get w.slots t)

-- an act of thread t is in the entry exactly where one was tried and doesn't wait
abbrev pub DoneOrWaits : {C W S : Type 0} → Meaning C W S → (tried : Bool) → ℕ → Option Act → State S → Type 0
DoneOrWaits m tried t (Some a) new = IsTrue tried
DoneOrWaits m tried t None new = IsTrue tried → WaitsHere m new.site t

-- at most as many of the work's steps as turns are left are in the journal, with an act if one was done
pub record Commits {C W S : Type 0} (m : Meaning C W S) (turns : ℕ) (old : State S) (work : WorkState W) (new : State S) : Type 0 where
  pub stands : StandsAt m old work
  pub act : Option Act
  pub journal : new.journal ≡ old.journal ++ entries_of work.thread (min (steps_in work.done) (turns_left turns old work.thread)) act
  pub has_act : DoneOrWaits m (is_tried (turns_left turns old work.thread) work.done) work.thread act new

-- these steps of thread t are in the journal, with an act if one was done
pub record CommitsSteps {C W S : Type 0} (m : Meaning C W S) (turns : ℕ) (old : State S) (t : ℕ) (ran : Ran W) (new : State S) : Type 0 where
  pub act : Option Act
  pub journal : new.journal ≡ old.journal ++ entries_of t ran.steps act
  pub has_act : DoneOrWaits m (is_tried (turns_left turns old t) (done.Steps ran)) t act new

-- a work that was taken in; or nothing changed, since the thread stands elsewhere
abbrev pub CommitCases : {C W S J : Type 0} → Meaning C W S → (turns : ℕ) → State S → WorkState W → Committed J S C W → Type 0
CommitCases m turns old work (committed.Took new) = Commits m turns old work new
CommitCases m turns old work (committed.Stale world version) = (world ≡ old) × (StandsAt m old work → ⊥) × (version ≡ version_in (slice_get old.slots work.thread))

abbrev pub PickCases : {C W S J : Type 0} → Meaning C W S → State S → Result (Picked J S C W) NoMemory → State S → Type 0
PickCases m old (Ok (picked.Go claim)) new = (new.journal ≡ old.journal) × (new.site ≡ old.site) × (m.windows old.site claim.thread ≡ Some claim.start)
PickCases m old (Ok picked.NothingNow) new = (new ≡ old) × Any (λ s. s.claimed ≡ true) old.slots
PickCases m old (Ok (picked.Over seen)) new = (new ≡ old) × (seen ≡ length old.journal)
PickCases m old (Err e) new = new ≡ old
