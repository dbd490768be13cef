use Rattle.std.proofs.Common.{codes, decimal, take, ◌++◌, ◌≡◌}
use Rattle.std.specs.List.{flat_map}
use Rattle.obq_model.specs.JournalText.{entry_line}
use Rattle.obq_journal.proofs.writing.write_journal.Given as goal

-- the first two lines and the entries so far are written
abbrev pub invariant-loop-entry : goal.invariant-loop-entry
invariant-loop-entry l = l.text.items ≡ codes "obliq-journal 1\nturns " ++ decimal l.j.turns ++ codes "\n" ++ flat_map entry_line (take l.entry-index l.j.entries)
