use Rattle.obq_world.proofs.world.World.take_in.Goals as goal

pub take_steps-requires-clause-running : goal.take_steps-requires-clause-running
take_steps-requires-clause-running g c = (c.work.inside.start, rw (← c.work.view_is) at c.requires.here)
