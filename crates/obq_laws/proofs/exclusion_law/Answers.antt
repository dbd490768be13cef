use Rattle.obq_laws.proofs.Exclusion.{exclusion_law}
use Rattle.obq_laws.proofs.exclusion_law.Goals as goal

pub returns : goal.returns
returns c = record { law = exclusion_law }
