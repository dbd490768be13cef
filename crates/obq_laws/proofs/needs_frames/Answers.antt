use Rattle.obq_model.proofs.Found.{needs_frames}
use Rattle.obq_laws.proofs.needs_frames.Goals as goal

pub returns : goal.returns
returns c c' = record { law = needs_frames }
