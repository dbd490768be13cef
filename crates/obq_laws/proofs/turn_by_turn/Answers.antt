use Rattle.obq_laws.proofs.Turns.{turn_by_turn}
use Rattle.obq_laws.proofs.turn_by_turn.Goals as goal

pub returns : goal.returns
returns c = record { law = turn_by_turn }
