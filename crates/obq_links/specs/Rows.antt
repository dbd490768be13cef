-- The table of links.
use Rattle.std.specs.Prelude.{List, [], if◌then◌else◌, map, suc, ℕ, ◌&&◌, ◌++◌, ◌==◌, ◌∷◌}
use Rattle.obq_model.specs.Located.{Link, Sent, first_sites}
use Rattle.obq_links.specs.Tables.{Table, count_at}
use Rattle.obq_links.specs.Sited.{Sited}
use Rattle.obq_links.specs.declared.rows.LinkCount.{LinkCount}

-- a row as the definition has it
abbrev pub link_as : LinkCount → Link
link_as c = Sent c.from c.to c.requests c.replies

abbrev pub rows_of : List LinkCount → List Link
rows_of rows = map link_as rows

-- the row of two sites, where there is a message
abbrev pub row_between : (requests : Table) → (replies : Table) → ℕ → ℕ → List Link
row_between requests replies from to =
    if count_at from to requests == 0 && count_at from to replies == 0 then []
    else Sent from to (count_at from to requests) (count_at from to replies) ∷ []

-- the rows from one site
abbrev pub rows_from : Table → Table → ℕ → List ℕ → List Link
rows_from requests replies from [] = []
rows_from requests replies from (to ∷ tos) = row_between requests replies from to ++ rows_from requests replies from tos

-- the rows from several sites
abbrev pub rows_among : Table → Table → List ℕ → List ℕ → List Link
rows_among requests replies [] tos = []
rows_among requests replies (from ∷ froms) tos = rows_from requests replies from tos ++ rows_among requests replies froms tos

-- each ordered pair with a request or a reply, the name server last
abbrev pub rows_in : Sited → List Link
rows_in s = rows_among s.requests s.replies (first_sites 0 (suc s.sites)) (first_sites 0 (suc s.sites))
