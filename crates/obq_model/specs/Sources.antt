-- Sources that are accepted, and the first fault of a list of sources: of each source first its bytes are examined, then its tokens, then its names.
use Rattle.std.specs.Prelude.{List, [], suc, zero, ℕ, ◌≡◌, ◌∷◌}
use Rattle.obq_base.specs.declared.faults.SourceFault.{SourceFault}
use Rattle.obq_base.specs.declared.faults.SourceFault.TheVariants.{Lexical, Syntax, Unbound}
use Rattle.obq_base.specs.declared.tokens.Token.{Token}
use Rattle.obq_base.specs.declared.trees.Block.{Block}
use Rattle.obq_base.specs.View.{block_tree}
use Rattle.obq_model.specs.Grammar.{Derives}
use Rattle.obq_model.specs.Occurrences.{IsFirstUnbound, unbound}
use Rattle.obq_model.specs.Syntax as syntax
use Rattle.obq_model.specs.Tokens as lexical

-- the source has these tokens, which derive this tree, and each name of the tree is bound or predefined
pub record IsAccepted (source : List ℕ) (tokens : List Token) (tree : Block) : Type 0 where
  pub reading : lexical.IsReading source tokens
  pub derived : Derives tokens tree
  pub bound : unbound (block_tree tree) ≡ []

-- the source has this first fault
abbrev pub IsFault : List ℕ → SourceFault → Type 0
IsFault source (Lexical kind place) = lexical.IsFirstFault source kind place
IsFault source (Syntax k) = (tokens : List Token) × lexical.IsReading source tokens × syntax.IsFirstFault tokens k
IsFault source (Unbound name place) =
    (tokens : List Token) × (tree : Block) × lexical.IsReading source tokens × Derives tokens tree × IsFirstUnbound (block_tree tree) name place

-- the sources are accepted, in order, with these trees
abbrev pub AreAccepted : List (List ℕ) → List Block → Type 0
AreAccepted [] [] = Unit {0}
AreAccepted (source ∷ sources) (tree ∷ trees) = ((tokens : List Token) × IsAccepted source tokens tree) × AreAccepted sources trees
AreAccepted [] (tree ∷ trees) = ⊥
AreAccepted (source ∷ sources) [] = ⊥

-- the source with this number is the first that has a fault, and this is its first
pub data IsFirstRefused : List (List ℕ) → ℕ → SourceFault → Type 0 where
  here : {source : List ℕ} {sources : List (List ℕ)} {fault : SourceFault} → IsFault source fault → IsFirstRefused (source ∷ sources) zero fault
  later : {source : List ℕ} {sources : List (List ℕ)} {k : ℕ} {fault : SourceFault} {tokens : List Token} {tree : Block} → IsAccepted source tokens tree → IsFirstRefused sources k fault
      → IsFirstRefused (source ∷ sources) (suc k) fault
