use Rattle.obq_world.proofs.Counting.{Counts}
use Rattle.obq_world.proofs.reports.report_of.Given as goal

abbrev pub invariant-loop-t : goal.invariant-loop-t
invariant-loop-t g l = Counts g.M.Machine.meaning l.site l.slots l.turns l.t l.report
