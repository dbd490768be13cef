use Rattle.obq_stands.proofs.WatchedRuns.{watch_rest_counts_as_located}
use Rattle.obq_stands.proofs.watch_rest_counts_as_located.Goals as goal

pub returns : goal.returns
returns c = record { law = watch_rest_counts_as_located }
