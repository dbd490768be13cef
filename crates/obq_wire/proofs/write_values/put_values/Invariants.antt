use Rattle.std.proofs.Common.{◌≡◌, ◌++◌, length, take}
use Rattle.std.specs.List.{flat_map}
use Rattle.obq_wire.specs.Spelling.{u32, value}
use Rattle.obq_wire.proofs.write_values.put_values.Given as goal

abbrev pub invariant-loop-x : goal.invariant-loop-x
invariant-loop-x l = l.out.items ≡ l.fn.out.items ++ (u32 (length l.values) ++ flat_map value (take l.x-index l.values))
