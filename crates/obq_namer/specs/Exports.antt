-- The table of a name server, in the words of the machine's definitions.
use Rattle.std.specs.Prelude.{◌≡◌, List, [], ◌∷◌, ℕ, Option}
use Rattle.std.specs.Prelude.{option_map}
use Rattle.obq_base.specs.declared.places.Ref.{Ref}
use Rattle.obq_base.specs.declared.values.Value.{Value as Shown}
use Rattle.obq_model.specs.Terms.{Value}
use Rattle.obq_model.specs.Store.{export, exported}

-- the names, each with what its value is read as
abbrev pub names_of : (Shown → Value Ref) → List (List ℕ × Shown) → List (List ℕ × Value Ref)
names_of read [] = []
names_of read (e ∷ es) = (e.0, read e.1) ∷ names_of read es

-- the table behind an export of this name
abbrev pub IsExport : List ℕ → Shown → List (List ℕ × Shown) → List (List ℕ × Shown) → Type 0
IsExport x v old new = (read : Shown → Value Ref) → names_of read new ≡ export x (read v) (names_of read old)

-- what an import of this name finds
abbrev pub IsExported : List ℕ → List (List ℕ × Shown) → Option Shown → Type 0
IsExported x names v = (read : Shown → Value Ref) → option_map read v ≡ exported x (names_of read names)
