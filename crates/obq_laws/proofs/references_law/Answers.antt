use Rattle.obq_laws.proofs.KnownReplay.{references_law}
use Rattle.obq_laws.proofs.references_law.Goals as goal

pub returns : goal.returns
returns c = record { law = references_law }
