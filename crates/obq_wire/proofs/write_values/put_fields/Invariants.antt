use Rattle.std.proofs.Common.{◌≡◌, ◌++◌, length, take}
use Rattle.std.specs.List.{flat_map}
use Rattle.obq_wire.specs.Spelling.{u32, field}
use Rattle.obq_wire.proofs.write_values.put_fields.Given as goal

abbrev pub invariant-loop-f : goal.invariant-loop-f
invariant-loop-f l = l.out.items ≡ l.fn.out.items ++ (u32 (length l.fields) ++ flat_map field (take l.f-index l.fields))
