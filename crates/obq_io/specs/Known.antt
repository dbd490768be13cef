-- Bytes that an object of the outside tells, or doesn't.
use Rattle.std.specs.Prelude.{List, None, Option, Some, length, take, ℕ, ◌≡◌, ◌≤◌, ⊤}
use Rattle.std.specs.Io.KnownBytes.{Appends}

-- if it is told, it is this
abbrev pub IsIt : Option (List ℕ) → List ℕ → Type 0
IsIt None bytes = ⊤
IsIt (Some xs) bytes = bytes ≡ xs

-- if it is told, P holds of it
abbrev pub WhereTold : Option (List ℕ) → (List ℕ → Type 0) → Type 0
WhereTold None P = ⊤
WhereTold (Some xs) P = P xs

-- a sink got a prefix of the text
abbrev pub GetsPrefix : Option (List ℕ) → Option (List ℕ) → List ℕ → Type 0
GetsPrefix old new text = (k : ℕ) × (k ≤ length text) × Appends old new (take k text)
