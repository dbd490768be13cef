use Rattle.obq_answers.proofs.Leaving.{new_cell_reads}
use Rattle.obq_answers.proofs.laws.new_reads.Goals as goal

pub returns : goal.returns
returns c = record { law = new_cell_reads }
