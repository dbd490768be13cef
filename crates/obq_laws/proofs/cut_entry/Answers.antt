use Rattle.obq_laws.proofs.Determinism.{cut_entry}
use Rattle.obq_laws.proofs.cut_entry.Goals as goal

pub returns : goal.returns
returns c = record { law = cut_entry }
