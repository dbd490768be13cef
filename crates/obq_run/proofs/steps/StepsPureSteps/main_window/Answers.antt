use Rattle.obq_run.proofs.Pure.{opens_so}
use Rattle.obq_run.proofs.steps.StepsPureSteps.main_window.Goals as goal

pub returns : goal.returns
returns c = opens_so _ _ _ c.main_window.ensures
