use Rattle.obq_laws.proofs.Determinism.{one_act}
use Rattle.obq_laws.proofs.one_act.Goals as goal

pub returns : goal.returns
returns c = record { law = one_act }
