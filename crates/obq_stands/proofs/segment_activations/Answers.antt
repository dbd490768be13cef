use Rattle.obq_stands.proofs.BareFrames.{segment_activations}
use Rattle.obq_stands.proofs.segment_activations.Goals as goal

pub returns : goal.returns
returns c = record { law = segment_activations }
