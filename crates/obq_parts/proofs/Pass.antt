-- What a part of the parser hands on of another part's answer.
use Rattle.std.proofs.Common.{◌≡◌, List, Result, sym, subst}
use Rattle.std.specs.Borrow.{Bor}
use Rattle.obq_base.specs.declared.tokens.TokenKind.{TokenKind}
use Rattle.obq_base.specs.declared.tokens.Token.{Token}
use Rattle.obq_model.specs.Nodes.{next}
use Rattle.obq_grammar.specs.Fails.{Fails}
use Rattle.obq_grammar.specs.Follow.{is_word, No}
use Rattle.obq_parts.specs.declared.steps.Refused.{Refused}
use Rattle.obq_parts.specs.declared.steps.Refused.TheVariants.{Syntax, NoMemory}
use Rattle.obq_parts.specs.Reads.{Faulty, Reads}
use Rattle.obq_parts.specs.Closed.{CloseFails, inside, unclosed}

-- a refusal of a part, as one of the whole
pub pass : {P Q : List Token → Type 0} (e : Refused) → ((z : List Token) → P z → Q z) → Faulty P e → Faulty Q e
pass (Syntax z) f p = f z.now p
pass NoMemory f p = tt

pub close_cases : {A : Type 0} {L : A → List Token → List Token → Type 0} {S : TokenKind → Type 0} {w : TokenKind} {x z : List Token} {R : Type 0} → (Fails L S x z → R) → ((a : A) → L a x z → S (next z) → No (is_word w (next z)) → R) → CloseFails L S w x z → R
close_cases f g (inside i) = f i
close_cases f g (unclosed a l s n) = g a l s n

-- the same answer at the same tokens
pub reads_at : {A : Type 0} (L : A → List Token → List Token → Type 0) (S : TokenKind → Type 0) {x y : List Token} (r : Result (A × Bor (List Token)) Refused) → x ≡ y → Reads L S y r → Reads L S x r
reads_at L S r e p = subst (λ (n : List Token). Reads L S n r) (sym e) p
