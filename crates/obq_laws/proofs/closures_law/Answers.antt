use Rattle.obq_laws.proofs.ClosuresMade.{closures_law}
use Rattle.obq_laws.proofs.closures_law.Goals as goal

pub returns : goal.returns
returns c = record { law = closures_law }
