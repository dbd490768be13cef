use Rattle.obq_host.proofs.AsMachine.{begins}
use Rattle.obq_host.proofs.site.SiteMachine.begin.Goals as goal

pub returns : goal.returns
returns g c = begins g.J.Naming.parts g.J.Naming.table g.J.Naming.program _ c.requires _ c.first_code.ensures _ c.main_window-window.ensures _ c.in_ok-host.ensures
