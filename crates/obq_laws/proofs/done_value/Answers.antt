use Rattle.obq_model.proofs.Found.{done_value}
use Rattle.obq_laws.proofs.done_value.Goals as goal

pub returns : goal.returns
returns c c' = record { law = done_value }
