-- Places by number: what stands at each, if anything does.
use Rattle.std.specs.Prelude.{Bool, List, None, Option, Some, false, option_and_then, slice_get, true, ℕ, ◌≡◌}
use Rattle.obq_stands.specs.World.{with_at}

abbrev pub at_place : {T : Type 0} → List (Option T) → ℕ → Option T
at_place places k = option_and_then (λ x. x) (slice_get places k)

-- only place k is another
abbrev pub IsWith : {T : Type 0} → List (Option T) → ℕ → Option T → List (Option T) → Type 0
IsWith old k x new = (j : ℕ) → at_place new j ≡ with_at (at_place old) k x j

-- the same stands at each
abbrev pub AreSame : {T : Type 0} → List (Option T) → List (Option T) → Type 0
AreSame old new = (j : ℕ) → at_place new j ≡ at_place old j

-- place k is another, and then place l, if there is a second thing; whether there is one
abbrev pub IsWithTwo : {T : Type 0} → List (Option T) → ℕ → T → ℕ → Option T → Bool → List (Option T) → Type 0
IsWithTwo old k x l (Some y) true new = (j : ℕ) → at_place new j ≡ with_at (with_at (at_place old) k (Some x)) l (Some y) j
IsWithTwo old k x l None false new = IsWith old k (Some x) new
IsWithTwo old k x l o made new = ⊥
