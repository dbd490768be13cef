use Rattle.obq_laws.proofs.ShapedOpening.{opening_shaped}
use Rattle.obq_laws.proofs.opening_shaped.Goals as goal

pub returns : goal.returns
returns c = record { law = opening_shaped }
