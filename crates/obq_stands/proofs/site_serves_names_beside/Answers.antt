use Rattle.obq_stands.proofs.WatchSites.{site_serves_names_beside}
use Rattle.obq_stands.proofs.site_serves_names_beside.Goals as goal

pub returns : goal.returns
returns c = record { law = site_serves_names_beside }
