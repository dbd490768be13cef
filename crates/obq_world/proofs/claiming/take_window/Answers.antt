use Rattle.std.proofs.Common.{arith, refl}
use Rattle.obq_world.proofs.Onward.{can_there, goes_by}
use Rattle.obq_world.proofs.Taking.{set_on}
use Rattle.obq_world.proofs.claiming.take_window.Goals as goal

pub try_act-requires-clause-can : goal.try_act-requires-clause-can
try_act-requires-clause-can g c =
    can_there g.M.Machine.meaning g.J.Naming.program c.args.site.now c.args.thread.0 c.args.left c.args.left c.args.threads _ c.set_window.new.self c.requires.running c.requires.can
    (set_on g.M.Machine.meaning c.args.site.now c.args.thread.0 c.args.left c.args.ran c.set_window.new.self c.requires.few c.requires.runs c.requires.stops c.set_window.ensures) (omega arith)

pub returns : goal.returns
returns g c = record {
  steps = refl;
  stop = refl;
  goes = goes_by g.M.Machine.meaning c.args.site.now c.args.thread.0 c.args.left c.args.left c.args.cells c.args.threads _ c.set_window.new.self c.is_wanted-wanted.result c.in_ok-tried.tried c.try_act.new.site
      (set_on g.M.Machine.meaning c.args.site.now c.args.thread.0 c.args.left c.args.ran c.set_window.new.self c.requires.few c.requires.runs c.requires.stops c.set_window.ensures) (omega arith) c.is_wanted-wanted.ensures c.in_ok-tried.ensures;
}
