use Rattle.obq_answers.proofs.Threads.{fork_reads}
use Rattle.obq_answers.proofs.laws.fork_reads.Goals as goal

pub returns : goal.returns
returns c = record { law = fork_reads }
