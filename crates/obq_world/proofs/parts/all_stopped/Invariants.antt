use Rattle.std.proofs.Common.{◌≡◌, ◌<◌, slice_get, Some}
use Rattle.obq_world.specs.declared.slots.ThreadSlot.{ThreadSlot}
use Rattle.obq_world.specs.Calls.{IsStopped}
use Rattle.obq_world.proofs.parts.all_stopped.Given as goal

abbrev pub invariant-loop-t : goal.invariant-loop-t
invariant-loop-t g l = (t : _) (slot : ThreadSlot) → t < l.t → slice_get l.slots t ≡ Some slot → IsStopped g.M.Machine.meaning l.site slot l.turns t
