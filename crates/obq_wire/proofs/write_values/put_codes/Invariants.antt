use Rattle.std.proofs.Common.{◌≡◌, ◌++◌, length, take}
use Rattle.std.specs.List.{flat_map}
use Rattle.obq_wire.specs.Spelling.{u32, code_number}
use Rattle.obq_wire.proofs.write_values.put_codes.Given as goal

abbrev pub invariant-loop-code : goal.invariant-loop-code
invariant-loop-code l = l.out.items ≡ l.fn.out.items ++ (u32 (length l.codes) ++ flat_map code_number (take l.code-index l.codes))
