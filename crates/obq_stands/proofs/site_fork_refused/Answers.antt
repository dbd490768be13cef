use Rattle.obq_stands.proofs.Assembled.{site_fork_refused}
use Rattle.obq_stands.proofs.site_fork_refused.Goals as goal

pub returns : goal.returns
returns c = record { law = site_fork_refused }
