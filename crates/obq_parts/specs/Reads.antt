-- What a part of the parser answers.
use Rattle.std.specs.Prelude.{◌≡◌, ℕ, List, ◌∷◌, Option, Some, None, Result, Ok, Err}
use Rattle.std.specs.Borrow.{Bor}
use Rattle.obq_base.specs.declared.tokens.TokenKind.{TokenKind}
use Rattle.obq_base.specs.declared.tokens.TokenKind.TheVariants as k
use Rattle.obq_base.specs.declared.tokens.Token.{Token}
use Rattle.obq_base.specs.declared.trees.Operator.{Operator}
use Rattle.obq_model.specs.Nodes.{next, token}
use Rattle.obq_model.specs.Grammar.{Operates}
use Rattle.obq_grammar.specs.Fails.{Fails}
use Rattle.obq_grammar.specs.Follow.{among, operators, EndsItem, No}
use Rattle.obq_parts.specs.declared.steps.Word.{Word}
use Rattle.obq_parts.specs.declared.steps.Word.TheVariants as w
use Rattle.obq_parts.specs.declared.steps.Refused.{Refused}
use Rattle.obq_parts.specs.declared.steps.Refused.TheVariants.{Syntax, NoMemory}

abbrev pub kind_of : Word → TokenKind
kind_of (w.Keyword row) = k.Keyword row
kind_of (w.Symbol row) = k.Symbol row

-- P holds of the tokens where nothing goes on
abbrev pub Faulty : (List Token → Type 0) → Refused → Type 0
Faulty P (Syntax z) = P z.now
Faulty P NoMemory = Unit {0}

-- An L stands at the front of x, and what is behind it may stand there; or none does, and x is refused where that shows.
abbrev pub Reads : {A : Type 0} → (A → List Token → List Token → Type 0) → (TokenKind → Type 0) → List Token → Result (A × Bor (List Token)) Refused → Type 0
Reads L S x (Ok p) = L p.0 x p.1.now × S (next p.1.now)
Reads L S x (Err e) = Faulty (Fails L S x) e

-- the same, where the item ends behind it
abbrev pub Ended : {A : Type 0} → Result (A × Bor (List Token)) Refused → Result (A × Bor (List Token)) Refused → Type 0
Ended (Ok p) (Ok q) = (p.0 ≡ q.0) × (p.1.now ≡ q.1.now) × EndsItem (next q.1.now)
Ended (Ok p) (Err (Syntax z)) = (p.1.now ≡ z.now) × (EndsItem (next z.now) → ⊥)
Ended (Ok p) (Err NoMemory) = ⊥
Ended (Err e) (Ok q) = ⊥
Ended (Err e) (Err f) = e ≡ f

abbrev pub TakesOperator : ℕ → List Token → Option (Operator × ℕ × Bor (List Token)) → Type 0
TakesOperator l x None = No (among (operators l) (next x))
TakesOperator l x (Some p) = (kind : TokenKind) × Operates l kind p.0 × (x ≡ token kind p.1 ∷ p.2.now)
