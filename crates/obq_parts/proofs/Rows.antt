-- The rows of the operators.
use Rattle.std.proofs.Common.{◌≡◌, ℕ, sym, subst}
use Rattle.obq_base.specs.declared.tokens.TokenKind.{TokenKind}
use Rattle.obq_base.specs.declared.trees.Operator.{Operator}
use Rattle.obq_model.specs.Grammar.{Operates}

-- by a level and a row that are equal to those of the table
pub at_row : (word : ℕ → TokenKind) {l m row n : ℕ} {f : Operator} → l ≡ m → row ≡ n → Operates m (word n) f → Operates l (word row) f
at_row word {l = l} {n = n} {f = f} e q o = subst (λ (r : ℕ). Operates l (word r) f) (sym q) (subst (λ (k : ℕ). Operates k (word n) f) (sym e) o)
