use Rattle.obq_windows.proofs.ActRows.{rows_read}
use Rattle.obq_windows.proofs.rows_read.Goals as goal

pub returns : goal.returns
returns c c' = record { law = rows_read }
