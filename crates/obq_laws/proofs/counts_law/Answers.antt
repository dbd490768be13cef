use Rattle.obq_laws.proofs.Counts.{counts_law}
use Rattle.obq_laws.proofs.counts_law.Goals as goal

pub returns : goal.returns
returns c = record { law = counts_law }
