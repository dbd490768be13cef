use Rattle.obq_wire.specs.Reading.{list_at, field_at}
use Rattle.obq_wire.proofs.Loop.{goes_on}
use Rattle.obq_wire.proofs.read_values.fields_of.Goals as goal

pub loop-preserved : goal.loop-preserved
loop-preserved c = rw c.in_ok-push.ensures.ok (goes_on (λ _. field_at c.args.table.now) c.loop.fields c.in_ok-count.count c.loop.counter c.loop.rest.now (list_at (λ _. field_at c.args.table.now) c.args.bytes.now) c.in_ok-field.field c.in_ok-field.after.now c.loop-test.true c.in_ok-field.ensures c.loop.invariant)
