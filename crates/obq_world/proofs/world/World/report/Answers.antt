use Rattle.std.proofs.Common.{◌∙◌}
use Rattle.obq_world.specs.State.{State}
use Rattle.obq_world.proofs.May.{few_threads}
use Rattle.obq_world.proofs.Reported.{reported}
use Rattle.obq_world.proofs.world.World.report.Goals as goal

pub report_of-requires : goal.report_of-requires
report_of-requires g c =
    let w : State _ = record { site = c.self.inside.site; slots = c.self.inside.slots.items; cells = c.self.inside.cells; journal = c.self.inside.journal.entries } in
    rw c.deref.ensures.value (few_threads g.M.Machine.meaning g.J.Naming.program g.J.Naming.turns w c.self.invariant.0)

pub returns : goal.returns
returns g c =
    let w : State _ = record { site = c.self.inside.site; slots = c.self.inside.slots.items; cells = c.self.inside.cells; journal = c.self.inside.journal.entries } in
    let told = rw c.deref.ensures.value at c.report_of.ensures in
    rw (← c.self.view_is) (reported g.M.Machine.meaning g.J.Naming.program g.J.Naming.turns c.turns.result w c.report_of.result c.self.invariant.0 (c.turns.ensures ∙ c.self.invariant.1) told)
