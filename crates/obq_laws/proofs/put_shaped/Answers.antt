use Rattle.obq_laws.proofs.ShapedPut.{put_shaped}
use Rattle.obq_laws.proofs.put_shaped.Goals as goal

pub returns : goal.returns
returns c c' = record { law = put_shaped }
