use Rattle.obq_laws.proofs.Determinism.{step_or_act}
use Rattle.obq_laws.proofs.step_or_act.Goals as goal

pub returns : goal.returns
returns c = record { law = step_or_act }
