use Rattle.obq_stands.proofs.WatchHomes.{watch_homes_kept}
use Rattle.obq_stands.proofs.watch_homes_kept.Goals as goal

pub returns : goal.returns
returns c = record { law = watch_homes_kept }
