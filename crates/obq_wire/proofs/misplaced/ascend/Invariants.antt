use Rattle.std.proofs.Common.{◌≡◌, drop}
use Rattle.obq_wire.specs.Ascending.{ascend, ascend_from}
use Rattle.obq_wire.proofs.misplaced.ascend.Given as goal

abbrev pub invariant-loop-entry : goal.invariant-loop-entry
invariant-loop-entry l = record { up : ascend_from l.last (drop l.entry-index l.rest) ≡ ascend l.table }
