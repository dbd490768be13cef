use Rattle.obq_answers.proofs.Edges.{end_reads}
use Rattle.obq_answers.proofs.laws.end_reads.Goals as goal

pub returns : goal.returns
returns c = record { law = end_reads }
