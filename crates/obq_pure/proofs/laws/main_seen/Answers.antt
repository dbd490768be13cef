use Rattle.obq_pure.proofs.Runs.{main_seen}
use Rattle.obq_pure.proofs.laws.main_seen.Goals as goal

pub returns : goal.returns
returns c = record { law = main_seen }
