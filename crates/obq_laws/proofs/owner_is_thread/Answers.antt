use Rattle.obq_laws.proofs.Changes.{owner_is_thread}
use Rattle.obq_laws.proofs.owner_is_thread.Goals as goal

pub returns : goal.returns
returns c = record { law = owner_is_thread }
