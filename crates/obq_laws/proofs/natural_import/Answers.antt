use Rattle.obq_model.proofs.NaturalCells.{map_import}
use Rattle.obq_laws.proofs.natural_import.Goals as goal

pub returns : goal.returns
returns c c' = record { law = map_import }
