-- The table of links behind an output, where it is asked for.
use Rattle.std.specs.Prelude.{Bool, List, [], codes, false, length, option_map, true, unwrap_or, ℕ, ◌++◌}
use Rattle.std.specs.Fmt.{decimal}
use Rattle.std.specs.List.{flat_map}
use Rattle.obq_base.specs.Tree.{BlockTree}
use Rattle.obq_links.specs.Rows.{link_as}
use Rattle.obq_links.specs.declared.rows.LinkCount.{LinkCount}
use Rattle.obq_model.specs.Journal.{Journal}
use Rattle.obq_model.specs.Located.{Link, links, located_replay}
use Rattle.obq_model.specs.Output.{link_line, links_text, newline}

-- the rows of a program's run with this journal; none where that isn't legal
abbrev pub link_rows : Bool → List BlockTree → Journal → List Link
link_rows false trees journal = []
link_rows true trees journal = unwrap_or (option_map (links (length trees)) (located_replay trees journal.turns journal.entries)) []

-- their text at sites of these names
abbrev pub links_part : Bool → List (List ℕ) → List Link → List ℕ
links_part false names rows = []
links_part true names rows = links_text names rows

-- how many requests and replies there are, at the end of a row's line
abbrev pub counts_text : (requests replies : ℕ) → List ℕ
counts_text requests replies = codes " requests " ++ (decimal requests ++ (codes " replies " ++ (decimal replies ++ newline)))

-- the lines of rows as they are counted
abbrev pub rows_text : List (List ℕ) → List LinkCount → List ℕ
rows_text names rows = flat_map (λ row. link_line names (link_as row)) rows
