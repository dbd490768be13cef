use Rattle.obq_laws.proofs.Changes.{owner_at_act}
use Rattle.obq_laws.proofs.owner_at_act.Goals as goal

pub returns : goal.returns
returns c = record { law = owner_at_act }
