use Rattle.obq_wire.proofs.Numbered.{numbered}
use Rattle.obq_wire.proofs.laws.operations_have_their_numbers.Goals as goal

pub returns : goal.returns
returns c = numbered
