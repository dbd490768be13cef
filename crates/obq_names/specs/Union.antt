-- Names, each once.
use Rattle.std.specs.Prelude.{List, [], filter, if◌then◌else◌, map, ◌++◌, ◌∷◌}
use Rattle.obq_base.specs.declared.occurrences.Occurrence.{Occurrence}
use Rattle.obq_model.specs.Terms.{Bytes}
use Rattle.obq_model.specs.Put.{among}

-- names, and this one, unless it is among them
abbrev pub with_name : Bytes → List Bytes → List Bytes
with_name x names = if among x names then names else names ++ x ∷ []

-- names, and the further ones, each once
abbrev pub union : List Bytes → List Bytes → List Bytes
union names [] = names
union names (x ∷ xs) = union (with_name x names) xs

-- the names that occur
abbrev pub names_of : List Occurrence → List Bytes
names_of us = map (λ u. u.name) us

-- those of them that stand among `bound`
abbrev pub covered_names : List Bytes → List Occurrence → List Bytes
covered_names bound us = filter (λ x. among x bound) (names_of us)
