use Rattle.obq_stands.proofs.Stays.{writers_begin}
use Rattle.obq_stands.proofs.writers_begin.Goals as goal

pub returns : goal.returns
returns c = record { law = writers_begin }
