use Rattle.obq_laws.proofs.Trails.{steps_trail_law}
use Rattle.obq_laws.proofs.steps_trail.Goals as goal

pub returns : goal.returns
returns c = record { law = steps_trail_law }
