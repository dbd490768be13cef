use Rattle.obq_laws.proofs.Over.{over_law}
use Rattle.obq_laws.proofs.over_law.Goals as goal

pub returns : goal.returns
returns c = record { law = over_law }
