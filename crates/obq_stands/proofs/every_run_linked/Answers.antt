use Rattle.obq_stands.proofs.PendingCalls.{every_run_linked}
use Rattle.obq_stands.proofs.every_run_linked.Goals as goal

pub returns : goal.returns
returns c = record { law = every_run_linked }
