use Rattle.obq_model.proofs.NaturalCells.{map_again}
use Rattle.obq_laws.proofs.natural_again.Goals as goal

pub returns : goal.returns
returns c c' = record { law = map_again }
