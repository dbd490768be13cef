use Rattle.obq_laws.proofs.Refused.{first_able_law}
use Rattle.obq_laws.proofs.first_able.Goals as goal

pub returns : goal.returns
returns c = record { law = first_able_law }
