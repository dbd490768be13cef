use Rattle.obq_stands.proofs.WatchSites.{site_retries_names_beside}
use Rattle.obq_stands.proofs.site_retries_names_beside.Goals as goal

pub returns : goal.returns
returns c = record { law = site_retries_names_beside }
