use Rattle.obq_model.proofs.Uniqueness.{ended}
use Rattle.obq_model.proofs.tokens.readings_are_ended.Goals as goal

pub returns : goal.returns
returns c = ended
