use Rattle.std.proofs.Common.{◌+◌, ◌-◌, ◌≤◌, length}
use Rattle.obq_thread.specs.Rows.{SameRows}
use Rattle.obq_thread.proofs.rows.make_room.Given as goal

abbrev pub invariant-loop-rows : goal.invariant-loop-rows
invariant-loop-rows g l = SameRows l.initial.rows.items l.rows.items × (length l.initial.rows.items ≤ length l.rows.items)

abbrev pub decreases-loop-rows : goal.decreases-loop-rows
decreases-loop-rows g l = l.place + 1 - length l.rows.items
