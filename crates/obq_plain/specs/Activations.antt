-- Activations in terms.
use Rattle.std.specs.Prelude.{List, [], ℕ, ◌+◌, ◌∷◌}
use Rattle.obq_model.specs.Located.{activations_of}
use Rattle.obq_model.specs.Terms.{Term}

-- the activations in several terms
abbrev pub activations_among : List (Term ℕ) → ℕ
activations_among [] = 0
activations_among (t ∷ ts) = activations_of t + activations_among ts
