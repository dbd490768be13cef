use Rattle.std.proofs.Common.{◌≡◌, ◌≤◌, ℕ, List, [], take, drop}
use Rattle.std.specs.List.{list_any}
use Rattle.obq_base.specs.declared.values.GroupNo.{GroupNo}
use Rattle.obq_wire.specs.Order.{misplaced_from, same_number}
use Rattle.obq_wire.specs.Seen.{has_seen}
use Rattle.obq_wire.specs.Walk.{IsAgreement}
use Rattle.obq_wire.proofs.misplaced.first_wrong.Given as goal

abbrev pub invariant-loop-k : goal.invariant-loop-k
invariant-loop-k l = record {
  agrees : l.k ≤ l.agreed;
  right_so_far : (needed : List ℕ) → IsAgreement needed l.agreed → misplaced_from needed (take l.k l.table) (drop l.k l.table) ≡ misplaced_from needed [] l.table;
  seen : (h : GroupNo) → has_seen l.seen h ≡ list_any (λ d. same_number d.number h) (take l.k l.table);
}
