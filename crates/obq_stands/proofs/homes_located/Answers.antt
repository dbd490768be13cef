use Rattle.obq_stands.proofs.HomeTrails.{homes_located}
use Rattle.obq_stands.proofs.homes_located.Goals as goal

pub returns : goal.returns
returns c = record { law = homes_located }
