use Rattle.std.proofs.Common.{arith, suc, sym, ◌+◌, ◌-◌, ◌∙◌, ◌≡◌}
use Rattle.obq_plain.proofs.Stepped.{on_next, sited_on, turn_moved}
use Rattle.obq_plain.proofs.Taken.{pure_next}
use Rattle.obq_plain.proofs.following.steps_on.Goals as goal

pub loop-preserved : goal.loop-preserved
loop-preserved c =
    let n = c.args.count - (c.loop.counter + 1) in
    let m = c.args.count - c.loop.counter in
    let many : m ≡ suc n = omega (arith, c.loop-test.true) in
    let step = sym c.in-Some.is ∙ c.in_ok-found.ensures in
    let moved =
    turn_moved c.loop.term c.in-Some.next (c.loop.trail, c.loop.sites.replies) _ _ _ c.turn.new.trail c.loop.sites c.turn.new.self c.here-here.ensures c.loop.invariant.counted c.in_ok-after.ensures
    c.in_ok-turn.ensures.trail c.in_ok-turn.ensures.sites in
    record {
      last = pure_next n m c.loop.term c.in-Some.next _ many step c.loop.invariant.last;
      onward = on_next n m c.loop.term c.in-Some.next (c.loop.trail, c.loop.sites.replies) _ _ many step moved c.loop.invariant.onward;
      sited = sited_on c.loop.sites c.turn.new.self c.args.sites.now _ c.loop.invariant.sited c.in_ok-turn.ensures.sites;
      counted = c.in_ok-after.ensures;
    }
