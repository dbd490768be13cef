use Rattle.std.proofs.Common.{ap, arith, if◌then◌else◌, rules, suc, true, ◌+◌, ◌-◌, ◌∙◌, ◌≡◌}
use Rattle.obq_plain.proofs.Scheduled.{step_next}
use Rattle.obq_plain.specs.Scheduling.{steps_found}
use Rattle.obq_reduce.specs.Founds.{found_of}
use Rattle.obq_plain.proofs.scheduling.step_on.Goals as goal

pub loop-count-preserved : goal.loop-count-preserved
loop-count-preserved c =
    let k = c.loop-count.count in
    let n = c.args.most - (k + 1) in
    let g = found_of c.in_ok-moved.field-0.found in
    let moved : c.in_ok-moved.field-0.moved ≡ true = search rules in
    step_next k n (c.args.most - k) (found_of c.loop-count.found) g _ (omega (arith, c.loop-count-test.true)) (c.in_ok-moved.ensures k n ∙ ap (λ b. if b then steps_found (suc k) n g else (k, g)) moved) c.loop-count.invariant
