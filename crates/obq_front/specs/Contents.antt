-- What sources hold, and the program that they give.
use Rattle.std.specs.Prelude.{List, [], length, map, suc, ℕ, ◌≡◌, ◌≤◌, ◌∷◌}
use Rattle.obq_base.specs.View.{block_tree}
use Rattle.obq_base.specs.declared.code.SourceCode.{SourceCode}
use Rattle.obq_base.specs.declared.trees.Block.{Block}
use Rattle.obq_front.specs.declared.program.Program.{Program}
use Rattle.obq_front.specs.declared.program.Source.{Source}
use Rattle.obq_model.specs.Sources.{AreAccepted}
use Rattle.obq_scope.specs.Tabled.{Tables}

-- the bytes of each source
abbrev pub contents : List Source → List (List ℕ)
contents sources = map (λ s. s.bytes.items) sources

-- the names of their sites
abbrev pub names_of : List Source → List (List ℕ)
names_of sources = map (λ s. s.name) sources

-- each source is within the limit
abbrev pub AllWithin : ℕ → List (List ℕ) → Type 0
AllWithin limit [] = Unit {0}
AllWithin limit (source ∷ sources) = (length source ≤ limit) × AllWithin limit sources

-- the parts resolve these blocks, in order, where the first is of the source with this number; the table of each source's procedures is that of its block
abbrev pub AreTabled : ℕ → List Block → List SourceCode → Type 0
AreTabled source [] [] = Unit {0}
AreTabled source (block ∷ blocks) (part ∷ parts) = Tables source (block_tree block) part × AreTabled (suc source) blocks parts
AreTabled source [] (part ∷ parts) = ⊥
AreTabled source (block ∷ blocks) [] = ⊥

-- the sources are accepted, and these are their names, their trees and the codes of these, with a table of the procedures of each source
pub record IsProgram (sources : List Source) (program : Program) : Type 0 where
  pub within : AllWithin 1048576 (contents sources)
  pub names : program.names.items ≡ names_of sources
  pub accepted : AreAccepted (contents sources) program.blocks.items
  pub resolved : AreTabled 0 program.blocks.items program.codes
