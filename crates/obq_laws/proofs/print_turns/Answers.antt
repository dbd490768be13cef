use Rattle.obq_laws.proofs.Printing.{print_turns_enough}
use Rattle.obq_laws.proofs.print_turns.Goals as goal

pub returns : goal.returns
returns c = record { law = print_turns_enough }
