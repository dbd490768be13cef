use Rattle.obq_stands.proofs.WatchSites.{site_retries_entering_beside}
use Rattle.obq_stands.proofs.site_retries_entering_beside.Goals as goal

pub returns : goal.returns
returns c = record { law = site_retries_entering_beside }
