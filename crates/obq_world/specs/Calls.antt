-- What the calls of a World do.
use Rattle.std.specs.Prelude.{All, List, length, Some, false, slice_get, ℕ, ◌≡◌, ◌≤◌, ◌⊎◌}
use Rattle.obq_base.specs.Tree.{BlockTree}
use Rattle.obq_base.specs.declared.acts.Entry.{Entry}
use Rattle.obq_world.specs.Acts.{WaitsHere}
use Rattle.obq_world.specs.Entries.{TakesMore}
use Rattle.obq_world.specs.Meaning.{Meaning, IsRunning}
use Rattle.obq_world.specs.State.{EndsOver}
use Rattle.obq_world.specs.declared.slots.ThreadSlot.{ThreadSlot}
use Rattle.obq_world.specs.declared.world.Advanced.{Advanced}
use Rattle.obq_world.specs.declared.world.Advanced.TheVariants as advanced
use Rattle.obq_world.specs.declared.world.Turn.{Turn}
use Rattle.obq_world.specs.declared.world.Turn.TheVariants as turn

-- the thread has no window here, no turn left, or waits
abbrev pub IsStopped : {C W S : Type 0} → Meaning C W S → S → ThreadSlot → (turns : ℕ) → ℕ → Type 0
IsStopped m site slot turns t = IsRunning m site t → (turns ≤ slot.used) ⊎ WaitsHere m site t

abbrev pub AllStopped : {C W S : Type 0} → Meaning C W S → S → List ThreadSlot → (turns : ℕ) → Type 0
AllStopped m site slots turns = (t : ℕ) (slot : ThreadSlot) → slice_get slots t ≡ Some slot → IsStopped m site slot turns t

-- each thread on which no claim is out has stopped
abbrev pub AllIdle : {C W S : Type 0} → Meaning C W S → S → List ThreadSlot → (turns : ℕ) → Type 0
AllIdle m site slots turns = (t : ℕ) (slot : ThreadSlot) → slice_get slots t ≡ Some slot → slot.claimed ≡ false → IsStopped m site slot turns t

abbrev pub NobodyClaims : List ThreadSlot → Type 0
NobodyClaims slots = All (λ s. s.claimed ≡ false) slots

-- one entry more; or nothing changed, as where no thread can go the run is over
abbrev pub AdvanceCases : {C W S J : Type 0} → List BlockTree → (turns : ℕ) → (journal : List Entry) → Advanced J S C W → Type 0
AdvanceCases blocks turns journal (advanced.Went w) = TakesMore journal w.journal
AdvanceCases blocks turns journal (advanced.Over w seen) = (w.journal ≡ journal) × EndsOver blocks turns journal × (seen ≡ length journal)
AdvanceCases blocks turns journal (advanced.Claimed w) = w.journal ≡ journal

-- the same of a turn, in which there may be no entry more
abbrev pub TurnCases : {C W S J : Type 0} → List BlockTree → (turns : ℕ) → (journal : List Entry) → Turn J S C W → Type 0
TurnCases blocks turns journal (turn.Came advanced) = AdvanceCases blocks turns journal advanced
TurnCases blocks turns journal (turn.Waited w) = w.journal ≡ journal
