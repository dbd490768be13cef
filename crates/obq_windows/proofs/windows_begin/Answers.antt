use Rattle.obq_windows.proofs.FirstWindows.{windows_begin}
use Rattle.obq_windows.proofs.windows_begin.Goals as goal

pub returns : goal.returns
returns c c' = record { law = windows_begin }
