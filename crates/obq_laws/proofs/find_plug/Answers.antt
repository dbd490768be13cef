use Rattle.obq_model.proofs.Plug.{find_plug}
use Rattle.obq_laws.proofs.find_plug.Goals as goal

pub returns : goal.returns
returns c c' = record { law = find_plug }
