use Rattle.obq_windows.proofs.Rows.{again_reads}
use Rattle.obq_windows.proofs.again_reads.Goals as goal

pub returns : goal.returns
returns c c' = record { law = again_reads }
