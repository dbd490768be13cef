use Rattle.obq_laws.proofs.FewActivations.{activations_law}
use Rattle.obq_laws.proofs.activations_law.Goals as goal

pub returns : goal.returns
returns c = record { law = activations_law }
