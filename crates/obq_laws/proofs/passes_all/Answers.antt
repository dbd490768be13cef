use Rattle.obq_model.proofs.Plug.{passes_all}
use Rattle.obq_laws.proofs.passes_all.Goals as goal

pub returns : goal.returns
returns c c' = record { law = passes_all }
