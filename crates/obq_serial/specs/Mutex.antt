-- What the calls on a mutex answer, and how this is told in the words of the machine's definitions.
use Rattle.std.specs.Prelude.{◌≡◌, ◌↔◌, Bool, true, false, IsTrue, Option, Some, None, if◌then◌else◌}
use Rattle.obq_base.specs.declared.places.Ref.{Ref}
use Rattle.obq_base.specs.declared.places.ThreadId.{ThreadId}
use Rattle.obq_base.specs.declared.trees.Flags.{Flags}
use Rattle.obq_model.specs.Terms.{Mode, Plain, Held, Inner}
use Rattle.obq_model.specs.Cells.{is_object}
use Rattle.obq_heap.specs.Cells.{with_owner}
use Rattle.obq_heap.specs.Heap.{Heap, changed}
use Rattle.obq_serial.specs.declared.mutex.Entered.{Entered}
use Rattle.obq_serial.specs.declared.mutex.Touch.{Touch}

-- the test tells which references are equal
abbrev pub Tells : (Ref → Ref → Bool) → Type 0
Tells eq = (a b : Ref) → IsTrue (eq a b) ↔ (a ≡ b)

-- the object is the current self
abbrev pub IsCurrent : Option Ref → Ref → Bool → Type 0
IsCurrent current o b = (eq : Ref → Ref → Bool) → Tells eq → is_object eq current o ≡ b

-- the answer by the owner of a serialized object that isn't the current self
abbrev pub by_owner : Option ThreadId → Entered
by_owner None = Entered.Held
by_owner (Some u) = Entered.Waits u

abbrev pub entered : Flags → Option ThreadId → Bool → Entered
entered flags owner inflicted = if flags.serialized then (if inflicted then Entered.Inner else by_owner owner) else Entered.Plain

-- the mode in which the method runs, if it doesn't wait
abbrev pub mode_of : Entered → Option Mode
mode_of Entered.Plain = Some Plain
mode_of Entered.Held = Some Held
mode_of Entered.Inner = Some Inner
mode_of (Entered.Waits u) = None

-- the object's owner behind the call
abbrev pub owner_after : ThreadId → Option ThreadId → Entered → Option ThreadId
owner_after t owner Entered.Held = Some t
owner_after t owner answer = owner

-- the heap behind the call
abbrev pub heap_after : Heap → Ref → ThreadId → Entered → Heap
heap_after h o t Entered.Held = changed h o (with_owner (Some t))
heap_after h o t answer = h

abbrev pub is_yes : Touch → Bool
is_yes Touch.Yes = true
is_yes (Touch.Waits u) = false

abbrev pub touched : Entered → Touch
touched (Entered.Waits u) = Touch.Waits u
touched answer = Touch.Yes
