use Rattle.obq_laws.proofs.Formed.{formed_replay}
use Rattle.obq_laws.proofs.formed_replay.Goals as goal

pub returns : goal.returns
returns c = record { law = formed_replay }
