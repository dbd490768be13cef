use Rattle.obq_model.proofs.Substitution.{members_read}
use Rattle.obq_laws.proofs.members_read.Goals as goal

pub returns : goal.returns
returns c c' = record { law = members_read }
