use Rattle.obq_model.proofs.Plug.{nearest_stop}
use Rattle.obq_laws.proofs.nearest_stop.Goals as goal

pub returns : goal.returns
returns c c' = record { law = nearest_stop }
