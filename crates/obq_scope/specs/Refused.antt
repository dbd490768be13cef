-- Causes of a refusal.
use Rattle.std.specs.Prelude.{List, ℕ}
use Rattle.obq_scope.specs.declared.refused.ScopeRefused.{ScopeRefused}
use Rattle.obq_scope.specs.declared.refused.ScopeRefused.TheVariants.{Unbound, NoMemory}

-- an unbound name is told only where it is one
abbrev pub IfUnbound : ScopeRefused → (List ℕ → ℕ → Type 0) → Type 0
IfUnbound (Unbound name place) P = P name place
IfUnbound NoMemory P = Unit {0}
