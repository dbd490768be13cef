use Rattle.obq_stands.proofs.Next.{bounds_known}
use Rattle.obq_stands.proofs.bounds_known.Goals as goal

pub returns : goal.returns
returns c = record { law = bounds_known }
