-- Claims, and works on them.
use Rattle.std.specs.Prelude.{ℕ, ◌≡◌}
use Rattle.obq_world.specs.declared.claims.Done.{Done}
use Rattle.obq_world.specs.declared.claims.Done.TheVariants as done
use Rattle.obq_world.specs.declared.going.Gone.{Gone}
use Rattle.obq_world.specs.declared.lending.Ran.{Ran}
use Rattle.obq_world.specs.Going.{GoesOn}
use Rattle.obq_world.specs.Meaning.{Meaning, Runs, StopsAs}

pub record ClaimState (W : Type 0) : Type 0 where
  pub thread : ℕ
  pub start : W

pub record WorkState (W : Type 0) : Type 0 where
  pub thread : ℕ
  pub start : W
  pub done : Done W

abbrev pub steps_in : {W : Type 0} → Done W → ℕ
steps_in (done.Steps ran) = ran.steps
steps_in done.NoMemory = 0

-- they are pure steps from this window on
abbrev pub AreDone : {C W S : Type 0} → Meaning C W S → W → Done W → Type 0
AreDone m start (done.Steps ran) = Runs m start ran.steps ran.window × StopsAs m ran.stop ran.window
AreDone m start done.NoMemory = Unit {0}

-- the same work with so many steps
pub record IsCut {W : Type 0} (work : WorkState W) (left : ℕ) (short : WorkState W) : Type 0 where
  pub thread : short.thread ≡ work.thread
  pub start : short.start ≡ work.start
  pub steps : steps_in short.done ≡ left

-- thread t takes these steps in, with the act that is due behind them
pub record TakesIn {C W S : Type 0} (m : Meaning C W S) (old : S) (t left cells threads : ℕ) (ran : Ran W) (gone : Gone) (new : S) : Type 0 where
  pub steps : gone.steps ≡ ran.steps
  pub stop : gone.stop ≡ ran.stop
  pub goes : GoesOn m old t left cells threads gone new
