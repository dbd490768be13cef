use Rattle.obq_answers.proofs.Leaving.{cell_reads}
use Rattle.obq_answers.proofs.laws.cell_reads.Goals as goal

pub returns : goal.returns
returns c c' = record { law = cell_reads }
