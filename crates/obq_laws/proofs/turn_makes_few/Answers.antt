use Rattle.obq_laws.proofs.ClosuresMade.{turn_makes_few}
use Rattle.obq_laws.proofs.turn_makes_few.Goals as goal

pub returns : goal.returns
returns c = record { law = turn_makes_few }
