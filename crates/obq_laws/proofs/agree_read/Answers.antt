use Rattle.obq_model.proofs.Substitution.{agree_read}
use Rattle.obq_laws.proofs.agree_read.Goals as goal

pub returns : goal.returns
returns c c' = record { law = agree_read }
