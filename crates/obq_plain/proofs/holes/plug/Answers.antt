use Rattle.obq_plain.proofs.Plugged.{plugged_next}
use Rattle.obq_plain.proofs.holes.plug.Goals as goal

pub loop-frame-preserved : goal.loop-frame-preserved
loop-frame-preserved c = plugged_next c.loop-frame.frames c.pop.new.self c.in-Some.frame c.loop-frame.whole c.replace-whole.result _ c.in-Some.ensures c.replace-whole.ensures c.loop-frame.invariant
