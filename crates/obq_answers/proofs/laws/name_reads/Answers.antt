use Rattle.obq_answers.proofs.Leaving.{name_reads}
use Rattle.obq_answers.proofs.laws.name_reads.Goals as goal

pub returns : goal.returns
returns c c' = record { law = name_reads }
