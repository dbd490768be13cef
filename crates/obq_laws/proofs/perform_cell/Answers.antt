use Rattle.obq_model.proofs.OneCell.{perform_cell}
use Rattle.obq_laws.proofs.perform_cell.Goals as goal

pub returns : goal.returns
returns c = record { law = perform_cell }
