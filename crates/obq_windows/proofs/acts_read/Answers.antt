use Rattle.obq_windows.proofs.ActRows.{acts_read}
use Rattle.obq_windows.proofs.acts_read.Goals as goal

pub returns : goal.returns
returns c c' = record { law = acts_read }
