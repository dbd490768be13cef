use Rattle.std.proofs.Common.{arith, sym, ◌+◌, ◌-◌, ◌∙◌}
use Rattle.obq_plain.proofs.Taken.{pure_next}
use Rattle.obq_plain.proofs.taking.after_pure.Goals as goal

pub loop-preserved : goal.loop-preserved
loop-preserved c =
    pure_next (c.args.count - (c.loop.counter + 1)) (c.args.count - c.loop.counter) c.loop.term c.in-Some.next _ (omega (arith, c.loop-test.true)) (sym c.in-Some.is ∙ c.in_ok-found.ensures) c.loop.invariant
