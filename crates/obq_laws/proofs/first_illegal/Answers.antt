use Rattle.obq_laws.proofs.Refused.{first_illegal_law}
use Rattle.obq_laws.proofs.first_illegal.Goals as goal

pub returns : goal.returns
returns c = record { law = first_illegal_law }
