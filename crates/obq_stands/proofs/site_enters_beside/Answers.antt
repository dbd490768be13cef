use Rattle.obq_stands.proofs.WatchSites.{site_enters_beside}
use Rattle.obq_stands.proofs.site_enters_beside.Goals as goal

pub returns : goal.returns
returns c = record { law = site_enters_beside }
