use Rattle.obq_stands.proofs.Next.{not_yet_in_line}
use Rattle.obq_stands.proofs.not_yet_in_line.Goals as goal

pub returns : goal.returns
returns c = record { law = not_yet_in_line }
