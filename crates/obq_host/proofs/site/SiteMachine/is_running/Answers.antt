use Rattle.std.proofs.Common.{sym}
use Rattle.obq_host.proofs.AsMachine.{told_running}
use Rattle.obq_host.proofs.site.SiteMachine.is_running.Goals as goal

pub returns : goal.returns
returns g c = told_running g.J.Naming.parts g.J.Naming.table g.J.Naming.program _ c.self.inside.host (sym c.self.view_is) c.args.thread.0 _ c.is_running.ensures
