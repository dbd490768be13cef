-- How many methods the object literals of a program have, and how many closures its threads make.
use Rattle.std.specs.Prelude.{List, Some, [], length, map, slice_get, suc, ℕ, ◌*◌, ◌∷◌, ◌≡◌, ◌≤◌}
use Rattle.obq_base.specs.declared.acts.Entry.{Entry}
use Rattle.obq_base.specs.declared.tokens.Token.{Token}
use Rattle.obq_base.specs.declared.trees.Block.{Block}
use Rattle.obq_base.specs.View.{block_tree}
use Rattle.obq_model.specs.Config.{Config, ThreadState}
use Rattle.obq_model.specs.Grammar.{Derives}
use Rattle.obq_model.specs.Replay.{replay}
use Rattle.obq_model.specs.Sources.{AreAccepted}
use Rattle.obq_laws.specs.Closures.{closures_made}
use Rattle.obq_laws.specs.Literals.{AreNarrow, BlockLiterals, HasAtMost}

-- no source has more than n bytes
abbrev pub AreShort : ℕ → List (List ℕ) → Type 0
AreShort n [] = Unit {0}
AreShort n (source ∷ sources) = (length source ≤ n) × AreShort n sources

-- tokens that are no more than n and the end token derive no object literal with more than n methods
abbrev pub ProgramsAreNarrow : Type 0
ProgramsAreNarrow =
    (n : ℕ) (tokens : List Token) (tree : Block) → Derives tokens tree → length tokens ≤ suc n → BlockLiterals (HasAtMost n) (block_tree tree)

-- accepted sources of no more than n bytes have no object literal with more than n methods
abbrev pub SourcesAreNarrow : Type 0
SourcesAreNarrow =
    (n : ℕ) (sources : List (List ℕ)) (trees : List Block) → AreAccepted sources trees → AreShort n sources → AreNarrow n (map block_tree trees)

-- so a thread of theirs has made n closures at most for each turn that it has used, and n at most for each turn of the limit
abbrev pub SourcesMakeFew : Type 0
SourcesMakeFew =
    (n turns : ℕ) (sources : List (List ℕ)) (trees : List Block) (es : List Entry) (k : Config) (t : ℕ) (state : ThreadState)
    → 1 ≤ n → AreAccepted sources trees → AreShort n sources → replay (map block_tree trees) turns es ≡ Some k → slice_get k.threads t ≡ Some state
    → (closures_made (map block_tree trees) turns es t ≤ state.used * n) × (closures_made (map block_tree trees) turns es t ≤ turns * n)
