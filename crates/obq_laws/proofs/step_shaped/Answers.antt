use Rattle.obq_laws.proofs.ShapedStep.{step_shaped}
use Rattle.obq_laws.proofs.step_shaped.Goals as goal

pub returns : goal.returns
returns c c' = record { law = step_shaped }
