use Rattle.obq_laws.proofs.Activated.{found_activations}
use Rattle.obq_laws.proofs.found_activations.Goals as goal

pub returns : goal.returns
returns c c' = record { law = found_activations }
