use Rattle.obq_windows.proofs.ActRows.{rows_complete}
use Rattle.obq_windows.proofs.rows_complete.Goals as goal

pub returns : goal.returns
returns c c' = record { law = rows_complete }
