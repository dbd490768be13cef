-- Where no N goes on.
use Rattle.std.specs.Prelude.{◌≡◌, List, ◌∷◌}
use Rattle.obq_base.specs.declared.tokens.TokenKind.{TokenKind}
use Rattle.obq_base.specs.declared.tokens.Token.{Token}
use Rattle.obq_model.specs.Nodes.{next}

-- y has v where x has z at its end, and is x before it
pub data Cut : List Token → List Token → List Token → List Token → Type 0 where
  here : {z v : List Token} → Cut z z v v
  there : {t : Token} {x z y v : List Token} → Cut x z y v → Cut (t ∷ x) z (t ∷ y) v

-- No N of L that ends before a token of S begins with what x has before z and a token of the kind that is next in z; one begins with what x has before z.
pub record Fails {A : Type 0} (L : A → List Token → List Token → Type 0) (S : TokenKind → Type 0) (x z : List Token) : Type 0 where
  pub dead : (v : List Token) → next v ≡ next z → (y : List Token) × Cut x z y v × ((a : A) (s : List Token) → L a y s → S (next s) → ⊥)
  pub viable : (r : List Token) → S (next r) → (a : A) × (y : List Token) × (v : List Token) × Cut x z y v × L a y r
