use Rattle.obq_stands.proofs.Next.{one_line_known}
use Rattle.obq_stands.proofs.one_line_known.Goals as goal

pub returns : goal.returns
returns c = record { law = one_line_known }
