use Rattle.obq_stands.proofs.Next.{line_known}
use Rattle.obq_stands.proofs.line_known.Goals as goal

pub returns : goal.returns
returns c = record { law = line_known }
