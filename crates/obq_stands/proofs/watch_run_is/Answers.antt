use Rattle.obq_stands.proofs.WatchedRuns.{watch_run_is}
use Rattle.obq_stands.proofs.watch_run_is.Goals as goal

pub returns : goal.returns
returns c = record { law = watch_run_is }
