use Rattle.std.proofs.Common.{sym}
use Rattle.obq_host.proofs.AsMachine.{waits}
use Rattle.obq_host.proofs.site.SiteMachine.waits.Goals as goal

pub returns : goal.returns
returns g c = waits g.J.Naming.parts g.J.Naming.table g.J.Naming.program _ c.self.inside.host (sym c.self.view_is) c.args.thread.0 _ c.waits.ensures c.requires
