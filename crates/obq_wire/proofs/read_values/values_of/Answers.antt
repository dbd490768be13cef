use Rattle.obq_wire.specs.Reading.{list_at, value_at}
use Rattle.obq_wire.proofs.Loop.{goes_on}
use Rattle.obq_wire.proofs.read_values.values_of.Goals as goal

pub loop-preserved : goal.loop-preserved
loop-preserved c = rw c.in_ok-push.ensures.ok (goes_on (λ _. value_at c.args.table.now) c.loop.values c.in_ok-count.count c.loop.counter c.loop.rest.now (list_at (λ _. value_at c.args.table.now) c.args.bytes.now) c.in_ok-value.value c.in_ok-value.after.now c.loop-test.true c.in_ok-value.ensures c.loop.invariant)
