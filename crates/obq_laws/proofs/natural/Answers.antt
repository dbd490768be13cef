use Rattle.obq_model.proofs.Naturality.{map_find}
use Rattle.obq_laws.proofs.natural.Goals as goal

pub returns : goal.returns
returns c c' = record { law = map_find }
