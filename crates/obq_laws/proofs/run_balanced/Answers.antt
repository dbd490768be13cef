use Rattle.obq_laws.proofs.Sites.{run_balanced}
use Rattle.obq_laws.proofs.run_balanced.Goals as goal

pub returns : goal.returns
returns c = record { law = run_balanced }
