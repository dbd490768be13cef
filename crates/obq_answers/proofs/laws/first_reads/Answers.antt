use Rattle.obq_answers.proofs.Edges.{first_reads}
use Rattle.obq_answers.proofs.laws.first_reads.Goals as goal

pub returns : goal.returns
returns c = record { law = first_reads }
