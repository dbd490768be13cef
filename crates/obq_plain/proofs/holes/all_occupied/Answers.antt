use Rattle.obq_plain.proofs.Plugged.{occupied_next}
use Rattle.obq_plain.proofs.holes.all_occupied.Goals as goal

pub loop-frame-preserved : goal.loop-frame-preserved
loop-frame-preserved c = λ t.
    occupied_next c.loop-frame.frames c.pop.new.self c.in-Some.frame c.in_ok-occupied.field-0 c.loop-frame.all c.push.new.self t _ c.in-Some.ensures c.in_ok-push.ensures.ok
    (λ u. c.in_ok-occupied.ensures u) (c.loop-frame.invariant t)
