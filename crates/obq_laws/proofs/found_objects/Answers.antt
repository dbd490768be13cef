use Rattle.obq_laws.proofs.Activated.{found_objects}
use Rattle.obq_laws.proofs.found_objects.Goals as goal

pub returns : goal.returns
returns c c' = record { law = found_objects }
