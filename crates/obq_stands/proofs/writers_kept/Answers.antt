use Rattle.obq_stands.proofs.Stays.{writers_kept}
use Rattle.obq_stands.proofs.writers_kept.Goals as goal

pub returns : goal.returns
returns c = record { law = writers_kept }
