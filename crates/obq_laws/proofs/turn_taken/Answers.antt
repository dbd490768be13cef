use Rattle.obq_laws.proofs.Turns.{turn_taken}
use Rattle.obq_laws.proofs.turn_taken.Goals as goal

pub returns : goal.returns
returns c = record { law = turn_taken }
