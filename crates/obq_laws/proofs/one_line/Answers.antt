use Rattle.obq_laws.proofs.Lines.{one_line}
use Rattle.obq_laws.proofs.one_line.Goals as goal

pub returns : goal.returns
returns c = record { law = one_line }
