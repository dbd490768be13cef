use Rattle.obq_answers.proofs.Forms.{form_keeps}
use Rattle.obq_answers.proofs.laws.form_keeps.Goals as goal

pub returns : goal.returns
returns c = record { law = form_keeps }
