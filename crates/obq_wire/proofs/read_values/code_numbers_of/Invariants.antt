use Rattle.std.proofs.Common.{◌≡◌, ◌-◌}
use Rattle.obq_wire.specs.Reading.{items_at, list_at, code_number_at}
use Rattle.obq_wire.proofs.read_values.code_numbers_of.Given as goal

abbrev pub invariant-loop : goal.invariant-loop
invariant-loop l = items_at (λ _. code_number_at) (l.count - l.counter) l.codes l.rest ≡ list_at (λ _. code_number_at) l.bytes
