use Rattle.obq_model.proofs.Uniqueness.{one_reading}
use Rattle.obq_model.proofs.tokens.one_reading.Goals as goal

pub returns : goal.returns
returns c = one_reading
