use Rattle.obq_windows.proofs.Rows.{import_reads}
use Rattle.obq_windows.proofs.import_reads.Goals as goal

pub returns : goal.returns
returns c c' = record { law = import_reads }
