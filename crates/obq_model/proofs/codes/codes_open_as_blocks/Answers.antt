use Rattle.obq_model.proofs.Opens.{opens_as}
use Rattle.obq_model.proofs.codes.codes_open_as_blocks.Goals as goal

pub returns : goal.returns
returns c = λ writer source tree e. opens_as writer source tree e
