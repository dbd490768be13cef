-- Activations in the parts of a form.
use Rattle.std.proofs.Common.{List, [], arith, ap, ℕ, ◌+◌, ◌∷◌, ◌≡◌}
use Rattle.obq_model.specs.Located.{activations_of, activations_of_parts}
use Rattle.obq_model.specs.Step.{activations_in, values_before}
use Rattle.obq_model.specs.Terms as m
use Rattle.obq_plain.specs.Activations.{activations_among}
use Rattle.obq_terms.specs.Behind.{behind}

among_behind : (ts : List (m.Term ℕ)) (parts : m.Parts ℕ) → activations_of_parts (behind ts parts) ≡ activations_among ts + activations_of_parts parts
among_behind [] parts = omega arith
among_behind (t ∷ ts) parts = let h = among_behind ts (m.Part t parts) in omega (arith, h)

among_values : (vs : List (m.Value ℕ)) (parts : m.Parts ℕ) → activations_of_parts (values_before vs parts) ≡ activations_of_parts parts
among_values [] parts = omega arith
among_values (v ∷ vs) parts = let h = among_values vs parts in omega (arith, h)

among_parts : (vs : List (m.Value ℕ)) (ts : List (m.Term ℕ)) → activations_of_parts (values_before vs (behind ts m.End)) ≡ activations_among ts
among_parts vs ts =
    let h = among_values vs (behind ts m.End) in
    let g = among_behind ts m.End in
    omega (arith, h, g)

-- values have none
pub in_form : (k : m.Kind ℕ) (vs : List (m.Value ℕ)) (ts : List (m.Term ℕ)) → activations_of (m.Form k (values_before vs (behind ts m.End))) ≡ activations_in (activations_among ts) k
in_form k vs ts = ap (λ n. activations_in n k) (among_parts vs ts)
