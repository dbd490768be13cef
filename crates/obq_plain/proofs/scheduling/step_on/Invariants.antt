use Rattle.std.proofs.Common.{◌-◌, ◌≡◌}
use Rattle.obq_plain.specs.Scheduling.{steps_found}
use Rattle.obq_reduce.specs.Founds.{found_of}
use Rattle.obq_plain.proofs.scheduling.step_on.Given as goal

abbrev pub invariant-loop-count : goal.invariant-loop-count
invariant-loop-count l = steps_found l.count (l.most - l.count) (found_of l.found) ≡ steps_found 0 l.most (found_of l.fn.found)
