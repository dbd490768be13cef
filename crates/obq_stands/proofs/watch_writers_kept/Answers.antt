use Rattle.obq_stands.proofs.Stays.{watch_writers_kept}
use Rattle.obq_stands.proofs.watch_writers_kept.Goals as goal

pub returns : goal.returns
returns c = record { law = watch_writers_kept }
