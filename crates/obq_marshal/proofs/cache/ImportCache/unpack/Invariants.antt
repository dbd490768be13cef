use Rattle.std.proofs.Common.{◌≡◌, take}
use Rattle.obq_marshal.specs.Groups.{so_far, unpacked}
use Rattle.obq_marshal.proofs.cache.ImportCache.unpack.Given as goal

abbrev pub invariant-loop-entry : goal.invariant-loop-entry
invariant-loop-entry l = so_far l.self l.groups.items ≡ unpacked l.fn.self (take l.entry-index l.carried.table)
