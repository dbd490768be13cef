use Rattle.obq_stands.proofs.BareFrames.{bare_kept}
use Rattle.obq_stands.proofs.bare_kept.Goals as goal

pub returns : goal.returns
returns c = record { law = bare_kept }
