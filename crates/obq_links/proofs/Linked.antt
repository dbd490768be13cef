-- The table of links of what is kept of a located configuration.
use Rattle.std.proofs.Common.{List, [], ap, arith, if◌then◌else◌, refl, suc, zero, ℕ, ◌&&◌, ◌+◌, ◌++◌, ◌<◌, ◌==◌, ◌≤◌, ◌∙◌, ◌∷◌, ◌≡◌}
use Rattle.obq_model.specs.Located.{Link, Sent, Located, first_sites, link, links, links_from, links_of, sent}
use Rattle.obq_links.specs.Rows.{row_between, rows_among, rows_from, rows_in}
use Rattle.obq_links.specs.Sited.{sited_of}
use Rattle.obq_links.specs.Tables.{count_at, table_of}
use Rattle.obq_links.proofs.Tallied.{count_sent}

-- a row of these numbers
abbrev row_with : ℕ → ℕ → ℕ → ℕ → List Link
row_with from to requests replies = if requests == 0 && replies == 0 then [] else Sent from to requests replies ∷ []

row_linked : (n : ℕ) (l : Located) (from to : ℕ) → from < n → to < n → row_between (table_of n l.requests) (table_of n l.replies) from to ≡ link l from to
row_linked n l from to h g =
    ap (λ k. row_with from to k (count_at from to (table_of n l.replies))) (count_sent n from to l.requests h g)
    ∙ ap (row_with from to (sent from to l.requests)) (count_sent n from to l.replies h g)

rows_linked : (n : ℕ) (l : Located) (from : ℕ) → from < n → (k j : ℕ) → k + j ≤ n → rows_from (table_of n l.requests) (table_of n l.replies) from (first_sites k j) ≡ links_from l from (first_sites k j)
rows_linked n l from h k zero g = refl
rows_linked n l from h k (suc j) g =
    let low : k < n = omega (arith, g) in
    let next : suc k + j ≤ n = omega (arith, g) in
    ap (λ rows. rows ++ rows_from (table_of n l.requests) (table_of n l.replies) from (first_sites (suc k) j)) (row_linked n l from k h low)
    ∙ ap (λ rows. link l from k ++ rows) (rows_linked n l from h (suc k) j next)

all_linked : (n : ℕ) (l : Located) (k j : ℕ) → k + j ≤ n → rows_among (table_of n l.requests) (table_of n l.replies) (first_sites k j) (first_sites 0 n) ≡ links_of l (first_sites k j) (first_sites 0 n)
all_linked n l k zero g = refl
all_linked n l k (suc j) g =
    let low : k < n = omega (arith, g) in
    let next : suc k + j ≤ n = omega (arith, g) in
    let all : 0 + n ≤ n = omega arith in
    ap (λ rows. rows ++ rows_among (table_of n l.requests) (table_of n l.replies) (first_sites (suc k) j) (first_sites 0 n)) (rows_linked n l k low 0 n all)
    ∙ ap (λ rows. links_from l k (first_sites 0 n) ++ rows) (all_linked n l (suc k) j next)

-- it is the definition's table
pub links_kept : (n : ℕ) (l : Located) → rows_in (sited_of n l) ≡ links n l
links_kept n l = let all : 0 + suc n ≤ suc n = omega arith in all_linked (suc n) l 0 (suc n) all
