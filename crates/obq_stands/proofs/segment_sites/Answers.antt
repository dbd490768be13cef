use Rattle.obq_stands.proofs.SegmentTrails.{segment_sites}
use Rattle.obq_stands.proofs.segment_sites.Goals as goal

pub returns : goal.returns
returns c = record { law = segment_sites }
