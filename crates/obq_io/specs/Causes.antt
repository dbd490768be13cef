-- Why a call on the outside failed, and how often one did.
use Rattle.std.specs.Prelude.{ℕ, ◌≡◌, ◌+◌, ◌-◌, ◌≤◌, ◌^◌, min, List, [], ◌∷◌, ⊤, Option, None, Some, Result, OnErr}

-- the count rose by one at least, or stands at the last value that it can have
abbrev pub Rose : ℕ → ℕ → Type 0
Rose before now = min (before + 1) (2 ^ 64 - 1) ≤ now

-- the count has not fallen, and rose where the call failed
pub record HasCause {T E : Type 0} (before now : ℕ) (result : Result T E) : Type 0 where
  pub later : before ≤ now
  pub failed : OnErr result (Rose before now)

-- where nothing is left, no byte comes
abbrev pub EndsOnlyThere : Option (List ℕ) → ℕ → Type 0
EndsOnlyThere None count = ⊤
EndsOnlyThere (Some []) count = count ≡ 0
EndsOnlyThere (Some (x ∷ xs)) count = ⊤

-- a count as a meaning: it stops at its last value
abbrev pub capped : ℕ → ℕ
capped count = min count (2 ^ 64 - 1)

-- nothing is left where no file is begun, and what is left of a file is not told
abbrev pub rest_of : {F : Type 0} → Option F → Option (List ℕ)
rest_of None = Some []
rest_of (Some f) = None
