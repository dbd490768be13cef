use Rattle.obq_model.proofs.Uniqueness.{ascending}
use Rattle.obq_model.proofs.tokens.readings_ascend.Goals as goal

pub returns : goal.returns
returns c = ascending
