use Rattle.obq_model.proofs.Substitution.{enter_read}
use Rattle.obq_laws.proofs.enter_read.Goals as goal

pub returns : goal.returns
returns c c' = record { law = enter_read }
