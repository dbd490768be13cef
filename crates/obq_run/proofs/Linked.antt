-- The table of links and its rows as they are counted.
use Rattle.std.proofs.Common.{List, [], ap, refl, ℕ, ◌++◌, ◌≡◌, ◌∷◌}
use Rattle.std.specs.List.{flat_map}
use Rattle.obq_links.specs.Rows.{link_as, rows_of}
use Rattle.obq_links.specs.declared.rows.LinkCount.{LinkCount}
use Rattle.obq_model.specs.Output.{link_line}
use Rattle.obq_run.specs.Linked.{rows_text}

pub rows_text_is : (names : List (List ℕ)) (rows : List LinkCount) → flat_map (link_line names) (rows_of rows) ≡ rows_text names rows
rows_text_is names [] = refl
rows_text_is names (row ∷ rows) = ap (λ t. link_line names (link_as row) ++ t) (rows_text_is names rows)
