-- The first token at which a list of tokens is no program.
use Rattle.std.specs.Prelude.{ℕ, ◌+◌, ◌<◌, List, ◌++◌, take, length}
use Rattle.obq_base.specs.declared.tokens.Token.{Token}
use Rattle.obq_base.specs.declared.trees.Block.{Block}
use Rattle.obq_model.specs.Grammar.{Derives}
pub use Rattle.obq_model.specs.Tokens.{IfEnd, IsEnded}

-- the tokens are a prefix of some program
abbrev pub IsFront : List Token → Type 0
IsFront ts = (more : List Token) × (tree : Block) × Derives (ts ++ more) tree

-- the tokens before k are a prefix of some program, and with token k they are a prefix of none
pub record IsFirstFault (ts : List Token) (k : ℕ) : Type 0 where
  pub within : k < length ts
  pub fits : IsFront (take k ts)
  pub sticks : IsFront (take (k + 1) ts) → ⊥
