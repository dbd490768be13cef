use Rattle.obq_answers.proofs.Forms.{answer_reads}
use Rattle.obq_answers.proofs.laws.answer_reads.Goals as goal

pub returns : goal.returns
returns c = record { law = answer_reads }
