use Rattle.std.proofs.Common.{take, ◌++◌, ◌≡◌}
use Rattle.obq_run.specs.Linked.{rows_text}
use Rattle.obq_words.specs.Words.{names_of}
use Rattle.obq_run.proofs.links.write_rows.Given as goal

-- the lines of the rows so far are written
abbrev pub invariant-loop-row : goal.invariant-loop-row
invariant-loop-row l = l.text.items ≡ l.initial.text.items ++ rows_text (names_of l.sites) (take l.row-index l.rows)
