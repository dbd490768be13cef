use Rattle.obq_model.proofs.PutRead.{put_read}
use Rattle.obq_laws.proofs.put_read.Goals as goal

pub returns : goal.returns
returns c c' = record { law = put_read }
