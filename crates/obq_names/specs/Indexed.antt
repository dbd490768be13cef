-- When a map has the last place of each name, and a list what each name had before.
use Rattle.std.specs.Prelude.{List, Option, [], ℕ, ◌++◌, ◌∷◌, ◌≡◌}
use Rattle.std.specs.BTreeMap.{BTreeMap}
use Rattle.std.specs.Global.{Vec}
use Rattle.obq_model.specs.Scopes.{last_place}
use Rattle.obq_names.specs.PlaceAt.{place_at}

-- for each of the further names its last place among the names before it
abbrev pub earlier_places : List (List ℕ) → List (List ℕ) → List (Option ℕ)
earlier_places before [] = []
earlier_places before (x ∷ xs) = last_place x before ∷ earlier_places (before ++ x ∷ []) xs

pub record IsIndexed (map : BTreeMap (Vec ℕ) ℕ) (earlier : List (Option ℕ)) (names : List (List ℕ)) : Type 0 where
  pub places : (q : List ℕ) → place_at map q ≡ last_place q names
  pub befores : earlier ≡ earlier_places [] names
