-- What stands next is one thing, and how an entry may be cut.
use Rattle.std.specs.Prelude.{None, Option, Some, slice_get, true, ℕ, ◌+◌, ◌↔◌, ◌≡◌}
use Rattle.obq_base.specs.declared.acts.Act.{Act}
use Rattle.obq_base.specs.declared.acts.Entry.{Entry}
use Rattle.obq_model.specs.Terms.{Term}
use Rattle.obq_model.specs.Store.{same_loc}
use Rattle.obq_model.specs.Step.{pure}
use Rattle.obq_model.specs.Config.{Running, ThreadState, Config}
use Rattle.obq_model.specs.Effect.{Nothing, effect}
use Rattle.obq_model.specs.Replay.{take_entry, is_over, IsOver}

-- an entry of a thread
abbrev pub entry_of : ℕ → ℕ → Option Act → Entry
entry_of t n a = record { thread = t; pure = n; act = a }

-- where a pure step stands next, no act does
abbrev pub StepOrAct : Type 0
StepOrAct = (k : Config) (t : ℕ) (state : ThreadState) (u v : Term ℕ) → slice_get k.threads t ≡ Some state → state.execution ≡ Running u → pure same_loc u ≡ Some v → effect k t ≡ Nothing

-- a thread's next act is one, behind one number of pure steps, and leaves one configuration
abbrev pub OneAct : Type 0
OneAct = (turns : ℕ) (k k1 k2 : Config) (t n m : ℕ) (a b : Act) → take_entry turns k (entry_of t n (Some a)) ≡ Some k1 → take_entry turns k (entry_of t m (Some b)) ≡ Some k2 → (n ≡ m) × (a ≡ b) × (k1 ≡ k2)

-- an entry is the same as two, of which the first has some of its pure steps
abbrev pub CutEntry : Type 0
CutEntry =
    (turns : ℕ) (k : Config) (t n m : ℕ) (a : Option Act)
    → take_entry turns k (entry_of t (n + m) a) ≡ elim (take_entry turns k (entry_of t n None)) [ None ↦ None | Some k2 ↦ take_entry turns k2 (entry_of t m a) ]

-- no thread is able exactly where the first able one isn't there
abbrev pub OverLaw : Type 0
OverLaw = (turns : ℕ) (k : Config) → (is_over turns k ≡ true) ↔ IsOver turns k
