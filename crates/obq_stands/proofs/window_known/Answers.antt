use Rattle.obq_stands.proofs.Known.{window_known}
use Rattle.obq_stands.proofs.window_known.Goals as goal

pub returns : goal.returns
returns c = record { law = window_known }
