use Rattle.obq_laws.proofs.Parts.{events_parts}
use Rattle.obq_laws.proofs.events_parts.Goals as goal

pub returns : goal.returns
returns c = record { law = events_parts }
