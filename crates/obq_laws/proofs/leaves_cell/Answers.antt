use Rattle.obq_model.proofs.OneCell.{leaves_cell}
use Rattle.obq_laws.proofs.leaves_cell.Goals as goal

pub returns : goal.returns
returns c c' = record { law = leaves_cell }
