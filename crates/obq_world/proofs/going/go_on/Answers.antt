use Rattle.std.proofs.Common.{arith}
use Rattle.obq_world.proofs.Onward.{can_there, goes_by}
use Rattle.obq_world.proofs.going.go_on.Goals as goal

pub try_act-requires-clause-can : goal.try_act-requires-clause-can
try_act-requires-clause-can g c =
    let most = c.min.ensures in
    can_there g.M.Machine.meaning g.J.Naming.program c.args.site.now c.args.thread.0 c.min.result c.args.left c.args.threads c.in_ok-slice.slice c.run.new.self c.requires.running c.requires.can c.in_ok-slice.ensures (omega (arith, most))

pub returns : goal.returns
returns g c =
    let most = c.min.ensures in
    goes_by g.M.Machine.meaning c.args.site.now c.args.thread.0 c.min.result c.args.left c.args.cells c.args.threads c.in_ok-slice.slice c.run.new.self c.is_wanted-wanted.result c.in_ok-tried.tried c.try_act.new.site
    c.in_ok-slice.ensures (omega (arith, most)) c.is_wanted-wanted.ensures c.in_ok-tried.ensures
