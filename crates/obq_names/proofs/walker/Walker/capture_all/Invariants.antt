use Rattle.std.proofs.Common.{◌≡◌, drop}
use Rattle.obq_names.specs.Walked.{with_all_bound}
use Rattle.obq_names.proofs.walker.Walker.capture_all.Given as goal

abbrev pub invariant-loop-name : goal.invariant-loop-name
invariant-loop-name l = with_all_bound (drop l.name-index l.names) l.self ≡ with_all_bound l.names l.fn.self
