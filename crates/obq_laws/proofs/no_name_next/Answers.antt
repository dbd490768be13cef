use Rattle.obq_laws.proofs.ClosedReplay.{no_name_next}
use Rattle.obq_laws.proofs.no_name_next.Goals as goal

pub returns : goal.returns
returns c = record { law = no_name_next }
