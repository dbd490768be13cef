use Rattle.obq_laws.proofs.ClosedReplay.{closed_replay}
use Rattle.obq_laws.proofs.closed_replay.Goals as goal

pub returns : goal.returns
returns c = record { law = closed_replay }
