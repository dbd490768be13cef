use Rattle.obq_model.proofs.PutTwice.{put_twice}
use Rattle.obq_laws.proofs.put_twice.Goals as goal

pub returns : goal.returns
returns c c' = record { law = put_twice }
