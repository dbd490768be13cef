-- One source more.
use Rattle.std.specs.Prelude.{List, [], ℕ, ◌++◌, ◌≡◌, ◌∷◌}
use Rattle.obq_base.specs.declared.code.SourceCode.{SourceCode}
use Rattle.obq_base.specs.declared.tokens.Token.{Token}
use Rattle.obq_base.specs.declared.trees.Block.{Block}
use Rattle.obq_base.specs.View.{block_tree}
use Rattle.obq_scope.specs.Tabled.{Tables}
use Rattle.obq_model.specs.Sources.{IsAccepted}
use Rattle.obq_front.specs.declared.gathered.Gathered.{Gathered}
use Rattle.obq_front.specs.declared.program.Source.{Source}

-- to what was gathered comes what the source with this number gives, which is accepted
pub record Adds (old : Gathered) (number : ℕ) (source : Source) (new : Gathered) : Type 0 where
  pub tokens : List Token
  pub block : Block
  pub code : SourceCode
  pub accepted : IsAccepted source.bytes.items tokens block
  pub resolved : Tables number (block_tree block) code
  pub names : new.names.items ≡ old.names.items ++ source.name ∷ []
  pub blocks : new.blocks.items ≡ old.blocks.items ++ block ∷ []
  pub parts : new.parts.items ≡ old.parts.items ++ code ∷ []
