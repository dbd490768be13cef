use Rattle.obq_stands.proofs.Homes.{every_run_at_home}
use Rattle.obq_stands.proofs.every_run_at_home.Goals as goal

pub returns : goal.returns
returns c = record { law = every_run_at_home }
