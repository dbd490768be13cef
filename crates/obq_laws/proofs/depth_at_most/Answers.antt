use Rattle.obq_model.proofs.Substitution.{depth_at_most}
use Rattle.obq_laws.proofs.depth_at_most.Goals as goal

pub returns : goal.returns
returns c c' = record { law = depth_at_most }
