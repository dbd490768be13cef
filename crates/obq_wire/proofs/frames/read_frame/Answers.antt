use Rattle.std.proofs.Common.{arith}
use Rattle.obq_wire.proofs.FrameLaws.{packet_takes}
use Rattle.obq_wire.proofs.frames.read_frame.Goals as goal

pub ordered-requires : goal.ordered-requires
ordered-requires c = (packet_takes c.args.bytes.now c.in-Ok.packet c.in-Ok.rest.now (λ i. omega (arith, c.type_inv.bytes i)) c.in-Ok.ensures).1
