-- Something is not nothing.
use Rattle.std.specs.Prelude.{None, Option, Some, is_some, unwrap_or, ◌≡◌}
use Rattle.std.proofs.Common.{ap, sym, true≢false, ◌∙◌}

pub some_none : {A : Type 0} (a : A) → Some a ≡ None → ⊥
some_none a e = true≢false (ap is_some e)

pub none_some : {A : Type 0} (a : A) → None ≡ Some a → ⊥
none_some a e = some_none a (sym e)

pub some_same : {A : Type 0} (a b : A) → Some a ≡ Some b → a ≡ b
some_same a b e = ap (λ o. unwrap_or o a) e

pub not_both : {A : Type 0} (o : Option A) (a : A) → o ≡ None → o ≡ Some a → ⊥
not_both o a e f = none_some a (sym e ∙ f)
