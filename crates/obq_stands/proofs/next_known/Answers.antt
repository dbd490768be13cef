use Rattle.obq_stands.proofs.Known.{next_known}
use Rattle.obq_stands.proofs.next_known.Goals as goal

pub returns : goal.returns
returns c = record { law = next_known }
