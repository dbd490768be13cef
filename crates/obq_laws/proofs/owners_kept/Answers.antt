use Rattle.obq_laws.proofs.Changes.{owners_kept}
use Rattle.obq_laws.proofs.owners_kept.Goals as goal

pub returns : goal.returns
returns c = record { law = owners_kept }
