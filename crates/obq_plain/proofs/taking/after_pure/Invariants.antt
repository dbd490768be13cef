use Rattle.std.proofs.Common.{◌-◌, ◌≡◌}
use Rattle.obq_model.specs.Replay.{after_pure}
use Rattle.obq_plain.proofs.taking.after_pure.Given as goal

abbrev pub invariant-loop : goal.invariant-loop
invariant-loop l = after_pure (l.count - l.counter) l.term ≡ after_pure l.count l.fn.term
