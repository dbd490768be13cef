use Rattle.obq_laws.proofs.Sites.{replay_balanced}
use Rattle.obq_laws.proofs.replay_balanced.Goals as goal

pub returns : goal.returns
returns c = record { law = replay_balanced }
