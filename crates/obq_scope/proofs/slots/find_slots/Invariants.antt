use Rattle.std.proofs.Common.{◌≡◌, ◌++◌, drop}
use Rattle.obq_scope.specs.Narrowed.{found_slots}
use Rattle.obq_scope.specs.Outsides.{outside_of}
use Rattle.obq_scope.proofs.slots.find_slots.Given as goal

abbrev pub invariant-loop-name : goal.invariant-loop-name
invariant-loop-name l = l.slots ++ found_slots (outside_of l.outside) l.locals (drop l.name-index l.names) ≡ found_slots (outside_of l.outside) l.locals l.names
