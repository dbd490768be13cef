-- The place that a map has for a name.
use Rattle.std.specs.Prelude.{List, Option, ℕ}
use Rattle.std.specs.Ordering.{nat_cmp}
use Rattle.std.specs.Cmp.Lexicographic.{slice_cmp}
use Rattle.std.specs.BTreeMap as tree
use Rattle.std.specs.BTreeMap.{BTreeMap}
use Rattle.std.specs.Global.{Vec}

abbrev pub place_at : BTreeMap (Vec ℕ) ℕ → List ℕ → Option ℕ
place_at m q = tree.get_by (λ k. slice_cmp nat_cmp q k.items) m
