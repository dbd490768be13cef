use Rattle.obq_model.proofs.NaturalCells.{map_cell_row}
use Rattle.obq_laws.proofs.natural_cell.Goals as goal

pub returns : goal.returns
returns c c' = record { law = map_cell_row }
