use Rattle.obq_laws.proofs.Refused.{why_not_law}
use Rattle.obq_laws.proofs.why_not.Goals as goal

pub returns : goal.returns
returns c = record { law = why_not_law }
