use Rattle.obq_wire.specs.Reading.{list_at, code_number_at}
use Rattle.obq_wire.proofs.Loop.{goes_on}
use Rattle.obq_wire.proofs.read_values.code_numbers_of.Goals as goal

pub loop-preserved : goal.loop-preserved
loop-preserved c = rw c.in_ok-push.ensures.ok (goes_on (λ _. code_number_at) c.loop.codes c.in_ok-count.count c.loop.counter c.loop.rest.now (list_at (λ _. code_number_at) c.args.bytes.now) c.in_ok-code.code c.in_ok-code.after.now c.loop-test.true c.in_ok-code.ensures c.loop.invariant)
