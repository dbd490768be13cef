-- What the calls on a condition answer, and how this is told in the words of the machine's definitions.
use Rattle.std.specs.Prelude.{◌≡◌, Bool, List, Option, Some, None, if◌then◌else◌}
use Rattle.obq_base.specs.declared.acts.ActKind.{ActKind}
use Rattle.obq_base.specs.declared.places.Ref.{Ref}
use Rattle.obq_base.specs.declared.places.ThreadId.{ThreadId}
use Rattle.obq_model.specs.Terms.{Term}
use Rattle.obq_model.specs.Step.{testing}
use Rattle.obq_model.specs.Store.{Cell}
use Rattle.obq_heap.specs.declared.cells.Cell.{Cell as Held}
use Rattle.obq_heap.specs.Cells.{with_owner}
use Rattle.obq_heap.specs.Heap.{Heap, cell_at, changed}
use Rattle.obq_watch.specs.Reads.{Reads, cell_of}
use Rattle.obq_watch.specs.declared.retake.Retaken.{Retaken}

-- what an operation comes to: its act, the cell that it leaves where it changes it, and the term at the focus; none where it waits
abbrev pub Row : Type 0
Row = Option (ActKind × Option (Cell Ref) × Term Ref)

abbrev pub does : ActKind → Option (Cell Ref) → Term Ref → Row
does kind left focus = Some (kind, left, focus)

-- P holds of the line of the condition that is there
abbrev pub ForLine : Heap → Ref → (List ThreadId → Type 0) → Type 0
ForLine h c P = (line : List ThreadId) → cell_at h c ≡ Some (Held.Condition line) → P line

abbrev pub by_owner : Option ThreadId → Retaken
by_owner None = Retaken.Held
by_owner (Some u) = Retaken.Waits u

abbrev pub retaken : Bool → Option ThreadId → Retaken
retaken lined owner = if lined then Retaken.StillLined else by_owner owner

-- what it comes to, with the object as it is then
abbrev pub retaken_row : Reads → Ref → Ref → Term Ref → Held → Retaken → Row
retaken_row read o c guard cell Retaken.Held = does ActKind.Again (Some (cell_of read cell)) (testing o c guard)
retaken_row read o c guard cell answer = None

abbrev pub retaken_heap : Heap → Ref → ThreadId → Retaken → Heap
retaken_heap h o t Retaken.Held = changed h o (with_owner (Some t))
retaken_heap h o t answer = h
