use Rattle.obq_world.proofs.Idle.{idle}
use Rattle.obq_world.proofs.May.{few_threads}
use Rattle.obq_world.proofs.world.World.is_over.Goals as goal

pub all_stopped-requires : goal.all_stopped-requires
all_stopped-requires g c =
    rw c.deref.ensures.value (few_threads g.M.Machine.meaning g.J.Naming.program g.J.Naming.turns (record { site = c.self.inside.site; slots = c.self.inside.slots.items; cells = c.self.inside.cells; journal = c.self.inside.journal.entries }) c.self.invariant.0)

pub returns-then-all_stopped : goal.returns-then-all_stopped
returns-then-all_stopped g c =
    let stopped = c.all_stopped.ensures c.if-all_stopped.true in
    let all = rw (c.turns.ensures, c.self.invariant.1, c.deref.ensures.value) at stopped in
    record { over = λ no. rw (← c.self.view_is) (idle g.M.Machine.meaning g.J.Naming.program g.J.Naming.turns (record { site = c.self.inside.site; slots = c.self.inside.slots.items; cells = c.self.inside.cells; journal = c.self.inside.journal.entries }) c.self.invariant.0 all) }
