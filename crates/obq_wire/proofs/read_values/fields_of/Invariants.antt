use Rattle.std.proofs.Common.{◌≡◌, ◌-◌}
use Rattle.obq_wire.specs.Reading.{items_at, list_at, field_at}
use Rattle.obq_wire.proofs.read_values.fields_of.Given as goal

abbrev pub invariant-loop : goal.invariant-loop
invariant-loop l = items_at (λ _. field_at l.table) (l.count - l.counter) l.fields l.rest ≡ list_at (λ _. field_at l.table) l.bytes
