use Rattle.obq_windows.proofs.Openings.{programs_agree}
use Rattle.obq_windows.proofs.programs_agree.Goals as goal

pub returns : goal.returns
returns c c' = record { law = programs_agree }
