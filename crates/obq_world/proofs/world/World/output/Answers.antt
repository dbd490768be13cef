use Rattle.std.proofs.Common.{arith}
use Rattle.obq_world.specs.State.{State}
use Rattle.obq_world.proofs.Reported.{put_out}
use Rattle.obq_world.proofs.world.World.output.Goals as goal

pub returns-then-site-eq0 : goal.returns-then-site-eq0
returns-then-site-eq0 g c =
    let w : State _ = record { site = c.self.inside.site; slots = c.self.inside.slots.items; cells = c.self.inside.cells; journal = c.self.inside.journal.entries } in
    rw (← c.self.view_is) (put_out g.M.Machine.meaning g.J.Naming.program g.J.Naming.turns g.J.Naming.sites c.args.site w c.text.result.now c.self.invariant.0 c.self.invariant.3 (omega arith) c.text.ensures)
