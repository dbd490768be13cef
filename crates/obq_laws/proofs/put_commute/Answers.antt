use Rattle.obq_model.proofs.PutCommute.{put_commute}
use Rattle.obq_laws.proofs.put_commute.Goals as goal

pub returns : goal.returns
returns c c' = record { law = put_commute }
