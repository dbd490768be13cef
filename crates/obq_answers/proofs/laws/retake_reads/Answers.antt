use Rattle.obq_answers.proofs.Leaving.{retake_reads}
use Rattle.obq_answers.proofs.laws.retake_reads.Goals as goal

pub returns : goal.returns
returns c c' = record { law = retake_reads }
