use Rattle.obq_run.proofs.Pure.{runs_as}
use Rattle.obq_run.proofs.steps.StepsPureSteps.run_pure.Goals as goal

pub returns-clause-runs : goal.returns-clause-runs
returns-clause-runs c = runs_as _ _ _ _ _ _ c.in_ok-run.ensures.steps c.stop_of.ensures
