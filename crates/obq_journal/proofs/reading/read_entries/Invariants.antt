use Rattle.std.proofs.Common.{length, ◌+◌, ◌≡◌, ◌≤◌}
use Rattle.std.specs.List.{slice_split}
use Rattle.obq_model.specs.JournalText.{ends_line, entries_in}
use Rattle.obq_journal.proofs.Entries.{read_before}
use Rattle.obq_journal.proofs.reading.read_entries.Given as goal

-- what was read and what the rest gives is what the text gives; no line is numbered beyond the text's bytes
abbrev pub invariant-loop-rest : goal.invariant-loop-rest
invariant-loop-rest l = record {
  limit : l.journal.turns ≡ l.turns;
  read : read_before l.journal.entries (entries_in l.line (slice_split ends_line l.rest)) ≡ entries_in 3 (slice_split ends_line l.text);
  few : l.line + length l.rest ≤ 3 + length l.text;
}

abbrev pub decreases-loop-rest : goal.decreases-loop-rest
decreases-loop-rest l = length l.rest
