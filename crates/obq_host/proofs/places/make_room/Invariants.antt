use Rattle.std.proofs.Common.{vec_len, ◌+◌, ◌-◌}
use Rattle.obq_host.specs.Places.{AreSame}
use Rattle.obq_host.proofs.places.make_room.Given as goal

abbrev pub invariant-loop-places : goal.invariant-loop-places
invariant-loop-places g l = AreSame l.initial.places.items l.places.items

abbrev pub decreases-loop-places : goal.decreases-loop-places
decreases-loop-places g l = l.at + 1 - vec_len l.places
