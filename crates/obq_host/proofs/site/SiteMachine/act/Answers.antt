use Rattle.std.proofs.Common.{sym}
use Rattle.std.proofs.lemmas.Result.{IfOk-weaker}
use Rattle.obq_host.proofs.AsMachine.{acted, has_room, ready}
use Rattle.obq_host.proofs.site.SiteMachine.act.Goals as goal

pub act-requires-clause-room : goal.act-requires-clause-room
act-requires-clause-room g c = has_room _ c.self.inside.host (sym c.self.view_is) c.args.cells c.requires.room.0 c.requires.room.1

pub act-requires-clause-names : goal.act-requires-clause-names
act-requires-clause-names g c = ready g.J.Naming.parts g.J.Naming.table g.J.Naming.program _ c.self.inside.host (sym c.self.view_is) c.args.thread.0 c.args.threads c.requires.due c.requires.can

pub returns : goal.returns
returns g c =
    IfOk-weaker c.act.result _ _ (λ came k. acted g.J.Naming.parts g.J.Naming.table g.J.Naming.program _ c.requires.codes _ c.self.inside.host _ (sym c.self.view_is) c.args.thread.0 c.args.cells c.args.threads c.requires.running c.requires.due c.requires.can c.requires.room.0 came k) c.act.ensures
