use Rattle.obq_model.proofs.Uniqueness.{shallow}
use Rattle.obq_model.proofs.tokens.readings_are_shallow.Goals as goal

pub returns : goal.returns
returns c = shallow
