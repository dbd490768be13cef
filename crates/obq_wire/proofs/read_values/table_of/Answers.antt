use Rattle.std.proofs.Common.{◌≡◌, Ok, subst}
use Rattle.obq_wire.specs.Reading.{list_at, entry_at}
use Rattle.obq_wire.proofs.Loop.{goes_on}
use Rattle.obq_wire.proofs.read_values.table_of.Goals as goal

pub loop-preserved : goal.loop-preserved
loop-preserved c = rw c.in_ok-push.ensures.ok (goes_on entry_at c.loop.table c.in_ok-count.count c.loop.counter c.loop.rest.now (list_at entry_at c.args.bytes.now) c.in_ok-entry.entry c.in_ok-entry.after.now c.loop-test.true (subst (λ t. entry_at t c.loop.rest.now ≡ Ok (c.in_ok-entry.entry, c.in_ok-entry.after.now)) c.as_slice.ensures c.in_ok-entry.ensures) c.loop.invariant)
