use Rattle.obq_stands.proofs.Known.{cell_known}
use Rattle.obq_stands.proofs.cell_known.Goals as goal

pub returns : goal.returns
returns c = record { law = cell_known }
