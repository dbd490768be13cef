use Rattle.obq_model.proofs.Substitution.{depth_own}
use Rattle.obq_laws.proofs.depth_own.Goals as goal

pub returns : goal.returns
returns c c' = record { law = depth_own }
