use Rattle.std.proofs.Common.{◌≡◌, drop}
use Rattle.obq_io.specs.Named.{held}
use Rattle.obq_io.proofs.memory.place_of.Given as goal

abbrev pub invariant-loop-i : goal.invariant-loop-i
invariant-loop-i l = held l.files l.name ≡ held (drop l.i l.files) l.name
