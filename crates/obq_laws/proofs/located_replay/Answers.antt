use Rattle.obq_laws.proofs.LocatedReplay.{located_replay_law}
use Rattle.obq_laws.proofs.located_replay.Goals as goal

pub returns : goal.returns
returns c = record { law = located_replay_law }
