use Rattle.obq_laws.proofs.Parts.{located_parts}
use Rattle.obq_laws.proofs.located_parts.Goals as goal

pub returns : goal.returns
returns c = record { law = located_parts }
