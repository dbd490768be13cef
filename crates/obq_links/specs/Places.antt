-- The places of operations.
use Rattle.obq_model.specs.Located as m
use Rattle.obq_links.specs.declared.places.Place.{Place}

-- the definition's place
abbrev pub place_as : Place → m.Place
place_as Place.Here = m.Here
place_as (Place.AtCell k) = m.AtCell k
place_as (Place.AtThread t) = m.AtThread t
place_as Place.AtNames = m.AtNames
