use Rattle.std.proofs.Common.{◌≡◌}
use Rattle.obq_world.proofs.world.World.advance.Given as goal

abbrev pub invariant-loop : goal.invariant-loop
invariant-loop g l = l.world.journal ≡ l.fn.self.journal
