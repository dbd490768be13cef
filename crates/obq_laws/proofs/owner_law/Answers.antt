use Rattle.obq_laws.proofs.OwnerReplay.{owner_law}
use Rattle.obq_laws.proofs.owner_law.Goals as goal

pub returns : goal.returns
returns c = record { law = owner_law }
