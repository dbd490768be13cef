use Rattle.obq_stands.proofs.RequestTrails.{every_run_at_sites}
use Rattle.obq_stands.proofs.every_run_at_sites.Goals as goal

pub returns : goal.returns
returns c = record { law = every_run_at_sites }
