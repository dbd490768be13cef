use Rattle.std.proofs.Common.{◌≡◌, take}
use Rattle.std.specs.Prelude.{map}
use Rattle.obq_marshal.specs.Groups.{value_of}
use Rattle.obq_marshal.proofs.unpacking.values_of.Given as goal

abbrev pub invariant-loop-x : goal.invariant-loop-x
invariant-loop-x l = l.made ≡ map (value_of l.groups) (take l.x-index l.values)
