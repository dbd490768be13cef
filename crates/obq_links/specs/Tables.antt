-- How many messages went from each site to each, as a table of numbers.
use Rattle.std.specs.Prelude.{List, [], if◌then◌else◌, map, replicate, slice_index_or, slice_set, ℕ, ◌+◌, ◌==◌}
use Rattle.obq_model.specs.Located.{Message, first_sites, sent}

-- for each site a row, with a number for each site
abbrev pub Table : Type 0
Table = List (List ℕ)

-- the table of so many sites that sent nothing
abbrev pub no_messages : ℕ → Table
no_messages n = replicate n (replicate n 0)

-- a row with one message more to this site
abbrev pub counted_to : ℕ → List ℕ → List ℕ
counted_to to row = slice_set row to (slice_index_or row to 0 + 1)

-- a table with one message more
abbrev pub counted : ℕ → ℕ → Table → Table
counted from to table = slice_set table from (counted_to to (slice_index_or table from []))

-- one message more where the sites differ
abbrev pub with_message : ℕ → ℕ → Table → Table
with_message from to table = if from == to then table else counted from to table

-- how many messages went from this site to that one
abbrev pub count_at : ℕ → ℕ → Table → ℕ
count_at from to table = slice_index_or (slice_index_or table from []) to 0

-- the table of these messages between so many sites
abbrev pub row_of : ℕ → List Message → ℕ → List ℕ
row_of n ms from = map (λ to. sent from to ms) (first_sites 0 n)

abbrev pub table_of : ℕ → List Message → Table
table_of n ms = map (row_of n ms) (first_sites 0 n)
