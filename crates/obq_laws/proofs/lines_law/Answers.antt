use Rattle.obq_laws.proofs.Lines.{lines_law}
use Rattle.obq_laws.proofs.lines_law.Goals as goal

pub returns : goal.returns
returns c = record { law = lines_law }
