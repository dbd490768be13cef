-- The place of a fault is within the tokens.
use Rattle.std.proofs.Common.{◌≤◌, List, length, refl, arith}
use Rattle.obq_base.specs.declared.tokens.TokenKind.{TokenKind}
use Rattle.obq_base.specs.declared.tokens.Token.{Token}
use Rattle.obq_grammar.specs.Fails.{Cut, here, there, Fails}

cut_within : {x z y v : List Token} → Cut x z y v → length z ≤ length x
cut_within here = omega arith
cut_within (there k) = let n = cut_within k in omega arith

pub fault_within : {A : Type 0} {L : A → List Token → List Token → Type 0} {S : TokenKind → Type 0} {x z : List Token} → Fails L S x z → length z ≤ length x
fault_within {z = z} f = cut_within (f.dead z refl).1
