use Rattle.obq_model.proofs.NaturalCells.{map_after_new}
use Rattle.obq_laws.proofs.natural_new.Goals as goal

pub returns : goal.returns
returns c c' = record { law = map_after_new }
