use Rattle.obq_stands.proofs.WaitingRequests.{rest_counts_as_located}
use Rattle.obq_stands.proofs.rest_counts_as_located.Goals as goal

pub returns : goal.returns
returns c = record { law = rest_counts_as_located }
