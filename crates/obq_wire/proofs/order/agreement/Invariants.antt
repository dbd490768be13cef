use Rattle.std.proofs.Common.{◌≡◌, length, drop}
use Rattle.std.specs.Prelude.{fold}
use Rattle.obq_wire.specs.Order.{order, placed}
use Rattle.obq_wire.specs.Walk.{numbers_below}
use Rattle.obq_wire.proofs.order.agreement.Given as goal

abbrev pub invariant-loop-root : goal.invariant-loop-root
invariant-loop-root l = fold (placed l.table (length l.table)) (numbers_below l.count) (drop l.root-index l.roots) ≡ order l.table l.roots
