use Rattle.obq_model.proofs.Substitution.{put_fresh}
use Rattle.obq_laws.proofs.put_fresh.Goals as goal

pub returns : goal.returns
returns c c' = record { law = put_fresh }
