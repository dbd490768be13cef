use Rattle.std.proofs.Common.{◌≡◌, take}
use Rattle.obq_marshal.specs.Groups.{greatest_depth}
use Rattle.obq_marshal.proofs.unpacking.greatest_depth.Given as goal

abbrev pub invariant-loop-x : goal.invariant-loop-x
invariant-loop-x l = l.greatest ≡ greatest_depth (take l.x-index l.values)
