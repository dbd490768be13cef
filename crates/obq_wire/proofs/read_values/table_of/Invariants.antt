use Rattle.std.proofs.Common.{◌≡◌, ◌-◌}
use Rattle.obq_wire.specs.Reading.{items_at, list_at, entry_at}
use Rattle.obq_wire.proofs.read_values.table_of.Given as goal

abbrev pub invariant-loop : goal.invariant-loop
invariant-loop l = items_at entry_at (l.count - l.counter) l.table l.rest ≡ list_at entry_at l.bytes
