use Rattle.std.proofs.Common.{sym}
use Rattle.std.proofs.lemmas.Result.{IfOk-weaker}
use Rattle.obq_host.proofs.AsMachine.{runs}
use Rattle.obq_host.proofs.site.SiteMachine.run.Goals as goal

pub returns : goal.returns
returns g c = IfOk-weaker c.run.result _ _ (λ slice k. runs g.J.Naming.parts g.J.Naming.table g.J.Naming.program _ c.requires.codes _ c.self.inside.host _ (sym c.self.view_is) _ _ slice k c.requires.running) c.run.ensures
