use Rattle.obq_wire.proofs.FrameLaws.{one_reading}
use Rattle.obq_wire.proofs.laws.one_packet.Goals as goal

pub returns : goal.returns
returns c = one_reading
