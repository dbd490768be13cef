use Rattle.obq_windows.proofs.Rows.{new_reads}
use Rattle.obq_windows.proofs.new_reads.Goals as goal

pub returns : goal.returns
returns c c' = record { law = new_reads }
