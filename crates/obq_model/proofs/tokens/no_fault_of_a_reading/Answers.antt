use Rattle.obq_model.proofs.Uniqueness.{no_fault_of_a_reading}
use Rattle.obq_model.proofs.tokens.no_fault_of_a_reading.Goals as goal

pub returns : goal.returns
returns c = no_fault_of_a_reading
