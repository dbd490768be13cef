use Rattle.obq_windows.proofs.Rows.{threads_read}
use Rattle.obq_windows.proofs.threads_read.Goals as goal

pub returns : goal.returns
returns c c' = record { law = threads_read }
