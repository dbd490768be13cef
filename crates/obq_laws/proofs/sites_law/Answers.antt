use Rattle.obq_laws.proofs.Sites.{sites_law}
use Rattle.obq_laws.proofs.sites_law.Goals as goal

pub returns : goal.returns
returns c = record { law = sites_law }
