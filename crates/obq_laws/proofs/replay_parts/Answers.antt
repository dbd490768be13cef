use Rattle.obq_laws.proofs.Parts.{replay_parts}
use Rattle.obq_laws.proofs.replay_parts.Goals as goal

pub returns : goal.returns
returns c = record { law = replay_parts }
