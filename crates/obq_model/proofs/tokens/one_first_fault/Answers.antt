use Rattle.obq_model.proofs.Uniqueness.{one_first_fault}
use Rattle.obq_model.proofs.tokens.one_first_fault.Goals as goal

pub returns : goal.returns
returns c = one_first_fault
