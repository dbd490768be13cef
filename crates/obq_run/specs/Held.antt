-- Sources that were read, and sources that are told.
use Rattle.std.specs.Prelude.{IsSomeAnd, List, Option, Some, [], length, slice_get, suc, take, zero, ℕ, ◌<◌, ◌≡◌, ◌≤◌, ◌∷◌}
use Rattle.obq_io.specs.Causes.{Rose}
use Rattle.obq_io.specs.Known.{IsIt, WhereTold}

-- the sources are within the limit, and each is what its path holds, where that is told
abbrev pub AreHeld : (List ℕ → Option (List ℕ)) → ℕ → List (List ℕ) → List (List ℕ) → Type 0
AreHeld holds limit [] [] = Unit {0}
AreHeld holds limit (path ∷ paths) (source ∷ sources) = IsIt (holds path) source × (length source ≤ limit) × AreHeld holds limit paths sources
AreHeld holds limit [] (source ∷ sources) = ⊥
AreHeld holds limit (path ∷ paths) [] = ⊥

-- each path tells that it holds its source
abbrev pub AreTold : (List ℕ → Option (List ℕ)) → List (List ℕ) → List (List ℕ) → Type 0
AreTold holds [] [] = Unit {0}
AreTold holds (path ∷ paths) (source ∷ sources) = (holds path ≡ Some source) × AreTold holds paths sources
AreTold holds [] (source ∷ sources) = ⊥
AreTold holds (path ∷ paths) [] = ⊥

-- each path holds at most so many bytes, where it tells what it holds
abbrev pub AreWithinLimit : (List ℕ → Option (List ℕ)) → ℕ → List (List ℕ) → Type 0
AreWithinLimit holds limit [] = Unit {0}
AreWithinLimit holds limit (path ∷ paths) = WhereTold (holds path) (λ xs. length xs ≤ limit) × AreWithinLimit holds limit paths

-- the count of faults of a path rose
abbrev pub PathRose : (before now : List ℕ → ℕ) → List ℕ → Type 0
PathRose before now path = Rose (before path) (now path)

-- reading stopped at this file, since the count of its path rose; the files before it are within the limit
abbrev pub IsFaultAt : (List ℕ → Option (List ℕ)) → ℕ → (List ℕ → Type 0) → List (List ℕ) → ℕ → Type 0
IsFaultAt holds limit Rises paths file = AreWithinLimit holds limit (take file paths) × IsSomeAnd (slice_get paths file) Rises

-- reading stopped at this file, which has more bytes than the limit, where that is told; the files before it are within the limit
abbrev pub IsTooLongAt : (List ℕ → Option (List ℕ)) → ℕ → List (List ℕ) → ℕ → Type 0
IsTooLongAt holds limit paths file = AreWithinLimit holds limit (take file paths) × IsSomeAnd (slice_get paths file) (λ p. WhereTold (holds p) (λ xs. limit < length xs))

-- this path tells more bytes than the limit, and each path before it tells no more
abbrev pub IsFirstTooLong : (List ℕ → Option (List ℕ)) → ℕ → List (List ℕ) → ℕ → Type 0
IsFirstTooLong holds limit [] k = ⊥
IsFirstTooLong holds limit (path ∷ paths) zero = IsSomeAnd (holds path) (λ xs. limit < length xs)
IsFirstTooLong holds limit (path ∷ paths) (suc k) = IsSomeAnd (holds path) (λ xs. length xs ≤ limit) × IsFirstTooLong holds limit paths k
