use Rattle.obq_pure.proofs.Runs.{stop_seen}
use Rattle.obq_pure.proofs.laws.stop_seen.Goals as goal

pub returns : goal.returns
returns c = record { law = stop_seen }
