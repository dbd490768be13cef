use Rattle.obq_laws.proofs.Parts.{replay_more}
use Rattle.obq_laws.proofs.replay_more.Goals as goal

pub returns : goal.returns
returns c = record { law = replay_more }
