use Rattle.obq_stands.proofs.PendingCalls.{linked_kept}
use Rattle.obq_stands.proofs.linked_kept.Goals as goal

pub returns : goal.returns
returns c = record { law = linked_kept }
