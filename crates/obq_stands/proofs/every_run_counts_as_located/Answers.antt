use Rattle.obq_stands.proofs.ReplyEvents.{run_counts}
use Rattle.obq_stands.proofs.every_run_counts_as_located.Goals as goal

pub returns : goal.returns
returns c = record { law = run_counts }
