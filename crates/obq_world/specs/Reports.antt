-- What is told of each thread, counted.
use Rattle.std.specs.Prelude.{Bool, List, None, Option, Some, if◌then◌else◌, slice_get, suc, ℕ, ◌≡◌}
use Rattle.obq_base.specs.Tree.{BlockTree}
use Rattle.obq_base.specs.declared.acts.Entry.{Entry}
use Rattle.obq_base.specs.declared.acts.Report.{Report}
use Rattle.obq_model.specs.Config.{Config}
use Rattle.obq_model.specs.Replay.{output, replay, report}
use Rattle.obq_model.specs.Terms.{Bytes}
use Rattle.obq_stands.specs.Stands.{At, EndedAt, Place}
use Rattle.obq_world.specs.Meaning.{Meaning}
use Rattle.obq_world.specs.State.{used_in}
use Rattle.obq_world.specs.declared.machine.HowEnded.{HowEnded}
use Rattle.obq_world.specs.declared.machine.HowEnded.TheVariants as how
use Rattle.obq_world.specs.declared.slots.ThreadSlot.{ThreadSlot}

-- one thread more, which ended so, or has a turn left or none
abbrev pub counted : Option HowEnded → (left : Bool) → Report → Report
counted (Some how.ByValue) left r = record r { ended = suc r.ended }
counted (Some how.ByException) left r = record r { raised = suc r.raised }
counted None left r = if left then record r { waiting = suc r.waiting } else record r { spent = suc r.spent }

-- the site and the slots tell that the thread is at this place: it goes on, or has ended
abbrev pub IsShown : {C W S : Type 0} → Meaning C W S → S → List ThreadSlot → ℕ → Place → Type 0
IsShown m s slots t (At k slot) = m.ended s t None × (slot.used ≡ used_in (slice_get slots t))
IsShown m s slots t (EndedAt k e) = m.ended s t (Some e)
IsShown m s slots t place = ⊥

-- the journal replays to a configuration with this report
abbrev pub Reports : List BlockTree → (turns : ℕ) → List Entry → Report → Type 0
Reports blocks turns journal r = (c : Config) × (replay blocks turns journal ≡ Some c) × (report turns c ≡ r)

-- it replays to one whose output at site k is this text
abbrev pub Outputs : List BlockTree → (turns : ℕ) → (sites : ℕ) → List Entry → (k : ℕ) → Bytes → Type 0
Outputs blocks turns sites journal k bytes = (c : Config) × (replay blocks turns journal ≡ Some c) × (slice_get (output sites c) k ≡ Some bytes)
