-- A set of group numbers that were seen.
use Rattle.std.specs.Prelude.{ℕ, Bool}
use Rattle.std.specs.Ordering.{nat_cmp, ordering_then}
use Rattle.std.specs.declared.cmp.Ordering.{Ordering}
use Rattle.std.specs.BTreeSet.{BTreeSet, contains}
use Rattle.obq_base.specs.declared.values.GroupNo.{GroupNo}

abbrev pub pair_cmp : ℕ × ℕ → ℕ × ℕ → Ordering
pair_cmp p q = ordering_then (nat_cmp p.0 q.0) (nat_cmp p.1 q.1)

abbrev pub has_seen : BTreeSet (ℕ × ℕ) → GroupNo → Bool
has_seen seen g = contains pair_cmp seen (g.thread, g.n)
