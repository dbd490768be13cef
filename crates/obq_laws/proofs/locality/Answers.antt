use Rattle.obq_laws.proofs.Changes.{locality}
use Rattle.obq_laws.proofs.locality.Goals as goal

pub returns : goal.returns
returns c = record { law = locality }
