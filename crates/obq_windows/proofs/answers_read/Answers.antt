use Rattle.obq_windows.proofs.Answering.{answers_read}
use Rattle.obq_windows.proofs.answers_read.Goals as goal

pub returns : goal.returns
returns c c' = record { law = answers_read }
