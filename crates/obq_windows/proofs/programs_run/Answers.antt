use Rattle.obq_windows.proofs.Openings.{programs_run}
use Rattle.obq_windows.proofs.programs_run.Goals as goal

pub returns : goal.returns
returns c c' = record { law = programs_run }
