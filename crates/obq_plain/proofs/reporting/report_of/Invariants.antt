use Rattle.std.proofs.Common.{drop, length, map, ◌+◌, ◌≡◌}
use Rattle.obq_model.specs.Replay.{report_of}
use Rattle.obq_plain.specs.Reports.{threads_in}
use Rattle.obq_plain.specs.Threads.{thread_of}
use Rattle.obq_plain.proofs.reporting.report_of.Given as goal

abbrev pub invariant-loop-at : goal.invariant-loop-at
invariant-loop-at l = record {
  same : l.report ≡ report_of l.turns (map thread_of (drop l.at l.threads));
  total : threads_in l.report + l.at ≡ length l.threads;
}

abbrev pub decreases-loop-at : goal.decreases-loop-at
decreases-loop-at l = l.at
