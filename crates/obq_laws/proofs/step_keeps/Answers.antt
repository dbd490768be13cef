use Rattle.obq_laws.proofs.Plugged.{step_keeps}
use Rattle.obq_laws.proofs.step_keeps.Goals as goal

pub returns : goal.returns
returns c c' = record { law = step_keeps }
