-- The entry of what a thread did, and the slots behind it.
use Rattle.std.specs.Prelude.{Bool, List, Option, Some, None, [], false, true, ◌∷◌, ℕ, ◌+◌, ◌++◌, ◌==◌, ◌≡◌, if◌then◌else◌}
use Rattle.obq_base.specs.declared.acts.Act.{Act}
use Rattle.obq_base.specs.declared.acts.Entry.{Entry}
use Rattle.obq_laws.specs.Determinism.{entry_of}
use Rattle.obq_model.specs.Replay.{act_turns}
use Rattle.obq_world.specs.declared.going.Gone.{Gone}
use Rattle.obq_world.specs.declared.machine.Made.{Made}
use Rattle.obq_world.specs.declared.machine.Stop.{Stop}
use Rattle.obq_world.specs.declared.machine.Stop.TheVariants as stop
use Rattle.obq_world.specs.declared.machine.Tried.{Tried}
use Rattle.obq_world.specs.declared.machine.Tried.TheVariants as tried
use Rattle.obq_world.specs.declared.slots.ThreadSlot.{ThreadSlot}

-- an act is due
abbrev pub stops_at_act : Stop → Bool
stops_at_act stop.Most = false
stops_at_act stop.Needs = true
stops_at_act stop.Bottom = true

-- the act that was done, what it made, and the turns of the steps and the act
abbrev pub act_in : Tried → Option Act
act_in (tried.Did a made) = Some a
act_in tried.Waits = None

abbrev pub made_in : Tried → Made
made_in (tried.Did a made) = made
made_in tried.Waits = Made.Nothing

abbrev pub turns_of : Gone → ℕ
turns_of gone = gone.steps + act_turns (act_in gone.tried)

-- n steps and the act, if there is one; none where there is neither
abbrev pub entries_of : ℕ → ℕ → Option Act → List Entry
entries_of t n (Some a) = entry_of t n (Some a) ∷ []
entries_of t n None = if n == 0 then [] else entry_of t n None ∷ []

-- a journal with one entry more, which takes a turn
abbrev pub TakesMore : (old new : List Entry) → Type 0
TakesMore old new = (e : Entry) × (new ≡ old ++ e ∷ []) × (e.pure + act_turns e.act ≡ 0 → ⊥)

-- n more turns are used, and no claim is out
abbrev pub spent : ThreadSlot → ℕ → ThreadSlot
spent x n = record { used = x.used + n; version = x.version; claimed = false }

abbrev pub new_slot : ThreadSlot
new_slot = record { used = 0; version = 0; claimed = false }

abbrev pub slots_made : Made → List ThreadSlot
slots_made Made.Thread = new_slot ∷ []
slots_made made = []
