-- The number that digits stand for.
use Rattle.std.proofs.Common.{ℕ, ◌+◌, ◌*◌, ◌-◌, ◌≤◌, List, [], ◌∷◌, arith}
use Rattle.std.specs.Prelude.{fold}

abbrev pub more : ℕ → ℕ → ℕ
more n d = 10 * n + (d - 48)

pub grows : (n : ℕ) (ds : List ℕ) → n ≤ fold more n ds
grows n [] = omega arith
grows n (d ∷ ds) = let h = grows (10 * n + (d - 48)) ds in omega arith
