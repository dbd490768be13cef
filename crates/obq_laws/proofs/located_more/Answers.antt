use Rattle.obq_laws.proofs.Parts.{located_more}
use Rattle.obq_laws.proofs.located_more.Goals as goal

pub returns : goal.returns
returns c = record { law = located_more }
