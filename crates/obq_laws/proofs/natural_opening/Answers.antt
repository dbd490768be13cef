use Rattle.obq_model.proofs.NaturalOpening.{natural_opening}
use Rattle.obq_laws.proofs.natural_opening.Goals as goal

pub returns : goal.returns
returns c c' = record { law = natural_opening }
