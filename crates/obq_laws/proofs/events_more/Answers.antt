use Rattle.obq_laws.proofs.Parts.{events_more}
use Rattle.obq_laws.proofs.events_more.Goals as goal

pub returns : goal.returns
returns c = record { law = events_more }
