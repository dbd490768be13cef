use Rattle.obq_laws.proofs.ShapedReplay.{shaped_replay}
use Rattle.obq_laws.proofs.shaped_replay.Goals as goal

pub returns : goal.returns
returns c = record { law = shaped_replay }
