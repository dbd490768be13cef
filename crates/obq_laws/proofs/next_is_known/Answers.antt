use Rattle.obq_laws.proofs.KnownReplay.{next_is_known}
use Rattle.obq_laws.proofs.next_is_known.Goals as goal

pub returns : goal.returns
returns c = record { law = next_is_known }
