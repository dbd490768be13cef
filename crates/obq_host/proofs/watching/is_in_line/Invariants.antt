use Rattle.std.proofs.Common.{drop, ◌≡◌}
use Rattle.obq_heap.specs.Reading.{numbers}
use Rattle.obq_model.specs.Effect.{in_line}
use Rattle.obq_host.proofs.watching.is_in_line.Given as goal

abbrev pub invariant-loop-other : goal.invariant-loop-other
invariant-loop-other l = in_line l.thread.0 (numbers (drop l.other-index l.line)) ≡ in_line l.thread.0 (numbers l.line)
