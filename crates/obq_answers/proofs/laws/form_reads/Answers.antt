use Rattle.obq_answers.proofs.Forms.{form_reads}
use Rattle.obq_answers.proofs.laws.form_reads.Goals as goal

pub returns : goal.returns
returns c = record { law = form_reads }
