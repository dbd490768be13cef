use Rattle.std.proofs.Common.{◌≡◌, length}
use Rattle.std.specs.List.{AllByRecursion}
use Rattle.obq_wire.specs.Order.{placed}
use Rattle.obq_wire.specs.Walk.{IsBegun, all_done, numbers_below}
use Rattle.obq_wire.proofs.order.climb.Given as goal

abbrev pub invariant-loop : goal.invariant-loop
invariant-loop l = record {
  placed_so_far : all_done l.table l.begun.items (numbers_below l.count) ≡ placed l.table (length l.table) (numbers_below l.fn.count) l.root;
  fit : AllByRecursion (IsBegun l.table) l.begun.items;
}
