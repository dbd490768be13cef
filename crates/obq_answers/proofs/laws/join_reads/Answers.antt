use Rattle.obq_answers.proofs.Threads.{join_reads}
use Rattle.obq_answers.proofs.laws.join_reads.Goals as goal

pub returns : goal.returns
returns c = record { law = join_reads }
