-- The parts of a production as languages: a word or a name alone, and one part behind another.
use Rattle.std.specs.Prelude.{ℕ, suc, ◌<◌, Bool, List, ◌∷◌}
use Rattle.obq_base.specs.declared.tokens.TokenKind.{TokenKind}
use Rattle.obq_base.specs.declared.tokens.TokenKind.TheVariants as k
use Rattle.obq_base.specs.declared.tokens.Token.{Token}
use Rattle.obq_base.specs.declared.trees.Operator.{Operator}
use Rattle.obq_model.specs.Nodes.{token}
use Rattle.obq_base.specs.declared.trees.Flags.{Flags}
use Rattle.obq_base.specs.declared.trees.Block.{Block}
use Rattle.obq_base.specs.declared.trees.Item.{Item}
use Rattle.obq_base.specs.declared.trees.Expr.{Expr}
use Rattle.obq_base.specs.declared.trees.Suffix.{Suffix}
use Rattle.obq_base.specs.declared.trees.Link.{Link}
use Rattle.obq_base.specs.declared.trees.Field.{Field}
use Rattle.obq_model.specs.Grammar.{Operates, IsLet, IsTry, IsDotted, IsSuffixed, IsObject, IsFlagged, IsLinks}

-- a keyword, a symbol or the end of the source
pub data IsWord (kind : TokenKind) : Unit {0} → List Token → List Token → Type 0 where
  the_word : {p : ℕ} {r : List Token} → IsWord kind tt (token kind p ∷ r) r

pub data IsName : List ℕ → List Token → List Token → Type 0 where
  the_name : {n : List ℕ} {p : ℕ} {r : List Token} → IsName n (token (k.Name n) p ∷ r) r

-- an operator of a level
pub data IsOperator : ℕ → Operator → List Token → List Token → Type 0 where
  the_operator : {l : ℕ} {kind : TokenKind} {f : Operator} {p : ℕ} {r : List Token} → Operates l kind f → IsOperator l f (token kind p ∷ r) r

-- a K, and an M behind it
pub data Then {A B : Type 0} (K : A → List Token → List Token → Type 0) (M : B → List Token → List Token → Type 0) : Unit {0} → List Token → List Token → Type 0 where
  then_ : {a : A} {b : B} {x y r : List Token} → K a x y → M b y r → Then K M tt x r

-- Where two trees are read, the pair of them.
abbrev pub IsChain : Expr × List Suffix → List Token → List Token → Type 0
IsChain c x r = IsSuffixed c.0 c.1 x r

abbrev pub IsFlagsAndFields : Flags × List Field → List Token → List Token → Type 0
IsFlagsAndFields c x r = IsObject c.0 c.1 x r

abbrev pub IsFlagAndFields : ℕ → Bool × List Field → List Token → List Token → Type 0
IsFlagAndFields row c x r = IsFlagged row c.0 c.1 x r

-- What stands behind a "let", behind a "try" and its block, behind "." and a name, whatever these are.
pub data IsLetBody : Item → List Token → List Token → Type 0 where
  let_body : {p : ℕ} {i : Item} {x r : List Token} → IsLet p i x r → IsLetBody i x r

pub data IsTryBody : Expr → List Token → List Token → Type 0 where
  try_body : {p : ℕ} {b : Block} {v : Expr} {x r : List Token} → IsTry p b v x r → IsTryBody v x r

pub data IsDottedBody : Suffix → List Token → List Token → Type 0 where
  dotted_body : {n : List ℕ} {p : ℕ} {f : Suffix} {x r : List Token} → IsDotted n p f x r → IsDottedBody f x r

-- what makes an expression of an operand of level l: operators and operands of that level and of each weaker one
pub data IsRest : ℕ → Unit {0} → List Token → List Token → Type 0 where
  top : {x : List Token} → IsRest 5 tt x x
  rise : {l : ℕ} {ls : List Link} {x y r : List Token} → l < 5 → IsLinks l ls x y → IsRest (suc l) tt y r → IsRest l tt x r
