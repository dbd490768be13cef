-- The integers and texts of accepted sources.
use Rattle.std.specs.Prelude.{List, map, ℕ}
use Rattle.obq_base.specs.declared.trees.Block.{Block}
use Rattle.obq_base.specs.View.{block_tree}
use Rattle.obq_model.specs.Leaves.{AreBounded}
use Rattle.obq_model.specs.Sources.{AreAccepted}

-- the trees of accepted sources have integers of 64 bits, and texts of at most 65,536 bytes
abbrev pub SourcesAreBounded : Type 0
SourcesAreBounded = (sources : List (List ℕ)) (trees : List Block) → AreAccepted sources trees → AreBounded (map block_tree trees)
