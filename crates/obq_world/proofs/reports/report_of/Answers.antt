use Rattle.std.proofs.Common.{arith}
use Rattle.obq_world.proofs.Counting.{all_counted, counts_on}
use Rattle.obq_world.proofs.reports.report_of.Goals as goal

pub loop-t-preserved : goal.loop-t-preserved
loop-t-preserved g c =
    counts_on g.M.Machine.meaning c.args.site.now c.args.slots.now c.args.turns c.loop-t.t c.loop-t.report c.count_thread-report.result c.ending-ended.result _ c.loop-t.invariant (omega arith) c.ending-ended.ensures c.count_thread-report.ensures

pub returns : goal.returns
returns g c = all_counted g.M.Machine.meaning c.args.site.now c.args.slots.now c.args.turns c.loop-t.t c.loop-t.report c.loop-t.invariant (omega arith)
