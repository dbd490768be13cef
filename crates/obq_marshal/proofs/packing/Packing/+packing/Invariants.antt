use Rattle.std.proofs.Common.{◌≡◌, take}
use Rattle.obq_marshal.specs.Packing.{after, pack_values}
use Rattle.obq_marshal.proofs.packing.Packing.+packing.Given as goal

abbrev pub invariant-pack_values-loop-x : goal.invariant-pack_values-loop-x
invariant-pack_values-loop-x l = pack_values (take l.x-index l.values) l.fn.self ≡ after l.self l.made
