use Rattle.obq_stands.proofs.Next.{owner_known}
use Rattle.obq_stands.proofs.owner_known.Goals as goal

pub returns : goal.returns
returns c = record { law = owner_known }
