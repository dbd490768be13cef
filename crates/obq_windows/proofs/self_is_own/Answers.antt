use Rattle.obq_windows.proofs.Answering.{self_is_own}
use Rattle.obq_windows.proofs.self_is_own.Goals as goal

pub returns : goal.returns
returns c c' = record { law = self_is_own }
