-- What reading a journal's text answers.
use Rattle.std.specs.Prelude.{Err, List, Ok, Result, ℕ, ⊤, ◌≡◌}
use Rattle.std.specs.List.{slice_split}
use Rattle.obq_model.specs.Journal.{Journal}
use Rattle.obq_model.specs.JournalText.{ends_line, entries_in, journal_with}
use Rattle.obq_journal.specs.Recording.{Recording, shown}
use Rattle.obq_journal.specs.declared.reading.JournalRefused.{JournalRefused}
use Rattle.obq_journal.specs.declared.reading.JournalRefused.TheVariants.{BadJournal, NoMemory}

-- the journal that was read for, or its first bad line; want of memory may come for any text
abbrev pub Answers : Result Journal ℕ → Result Recording JournalRefused → Type 0
Answers read (Ok recording) = read ≡ Ok (shown recording)
Answers read (Err (BadJournal line)) = read ≡ Err line
Answers read (Err NoMemory) = ⊤

-- the same where the second line gave the turn limit and this text is left, which begins with line 3
abbrev pub AnswersEntries : ℕ → List ℕ → Result Recording JournalRefused → Type 0
AnswersEntries turns text result = Answers (journal_with turns (entries_in 3 (slice_split ends_line text))) result
