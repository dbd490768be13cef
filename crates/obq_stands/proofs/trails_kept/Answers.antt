use Rattle.obq_stands.proofs.RequestTrails.{trails_kept}
use Rattle.obq_stands.proofs.trails_kept.Goals as goal

pub returns : goal.returns
returns c = record { law = trails_kept }
