use Rattle.obq_pure.proofs.Runs.{run_seen}
use Rattle.obq_pure.proofs.laws.run_seen.Goals as goal

pub returns : goal.returns
returns c = record { law = run_seen }
