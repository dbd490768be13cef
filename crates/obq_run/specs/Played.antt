-- What a run came to, and the output that it has.
use Rattle.std.specs.Prelude.{Bool, Err, List, Ok, Option, Result, Some, length, map, ℕ, ⊤, ◌++◌, ◌≡◌}
use Rattle.std.specs.Global.{Vec}
use Rattle.std.specs.Io.KnownBytes.{Appends}
use Rattle.std.specs.List.{flat_map, zip}
use Rattle.obq_base.specs.Tree.{BlockTree}
use Rattle.obq_base.specs.View.{block_tree}
use Rattle.obq_base.specs.declared.acts.Entry.{Entry}
use Rattle.obq_base.specs.declared.trees.Block.{Block}
use Rattle.obq_io.specs.Known.{GetsPrefix}
use Rattle.obq_io.specs.declared.files.Failed.{Failed}
use Rattle.obq_journal.specs.Recording.{shown}
use Rattle.obq_links.specs.Rows.{rows_of}
use Rattle.obq_model.specs.Config.{Config}
use Rattle.obq_model.specs.Journal.{Journal}
use Rattle.obq_model.specs.JournalText.{journal_in}
use Rattle.obq_model.specs.Output.{report_line, site_text, write_fault_line}
use Rattle.obq_model.specs.Refusals.{Why, first_illegal, first_refused}
use Rattle.obq_model.specs.Replay.{IsOver, TakeTurns, first_able, output, replay, replay_from, report}
use Rattle.obq_model.specs.Sources.{AreAccepted, IsFirstRefused}
use Rattle.obq_plain.specs.PlainStates.{PlainState}
use Rattle.obq_run.specs.Ends.{GetsLine}
use Rattle.obq_run.specs.Held.{AreHeld}
use Rattle.obq_run.specs.Linked.{link_rows, links_part}
use Rattle.obq_run.specs.Runs.{WithJournal, journal_part}
use Rattle.obq_run.specs.declared.ends.Cause.{Cause}
use Rattle.obq_run.specs.declared.ends.Cause.TheVariants as cause
use Rattle.obq_run.specs.declared.outcome.Outcome.{Outcome}
use Rattle.obq_run.specs.declared.playing.Played.{Played}
use Rattle.obq_run.specs.declared.run.Ran.{Ran}
use Rattle.obq_run.specs.declared.replaying.EntriesRefused.{EntriesRefused}
use Rattle.obq_run.specs.declared.replaying.EntriesRefused.TheVariants as refused

-- what each site wrote
abbrev pub sites_text : List (List ℕ × List ℕ) → List ℕ
sites_text sites = flat_map (λ s. site_text s.0 s.1) sites

abbrev pub texts_of : List (Vec ℕ) → List (List ℕ)
texts_of texts = map (λ t. t.items) texts

-- what a run came to at sites of these names, and this text behind it
abbrev pub output_text : List (List ℕ) → Outcome → List ℕ → List ℕ
output_text names o journal = sites_text (zip names (texts_of o.texts.items)) ++ (report_line o.report ++ journal)

-- This is what the run came to where the journal leads, and no thread can go on there.
pub record IsPlayed (trees : List BlockTree) (outcome : Outcome) (journal : Journal) : Type 0 where
  pub last : Config
  pub replays : replay trees journal.turns journal.entries ≡ Some last
  pub over : IsOver journal.turns last
  pub written : output (length trees) last ≡ texts_of outcome.texts.items
  pub reported : report journal.turns last ≡ outcome.report

-- a run under this limit, of which each entry takes a turn
pub record IsRun (trees : List BlockTree) (turns : ℕ) (played : Played) : Type 0 where
  pub is_played : IsPlayed trees played.outcome (shown played.journal)
  pub turn_limit : played.journal.turns ≡ turns
  pub each : TakeTurns played.journal.entries

-- what became of entries that were taken one after the other
abbrev pub TakesAll : PlainState → List Entry → Result Unit EntriesRefused → PlainState → Type 0
TakesAll old entries (Ok done) new =
    (replay_from old.turns old.config entries ≡ Some new.config) × (new.sites ≡ old.sites) × (new.turns ≡ old.turns)
TakesAll old entries (Err (refused.NotLegal entry)) new = (why : Why) × (first_refused old.turns old.config 0 entries ≡ Some (entry, why))
TakesAll old entries (Err refused.NoMemory) new = ⊤

-- what a refusal of a journal's text says
abbrev pub TextRefusal : List BlockTree → List ℕ → Cause → Type 0
TextRefusal trees bytes (cause.BadJournal line) = journal_in bytes ≡ Err line
TextRefusal trees bytes (cause.NotLegal entry) = (j : Journal) × (why : Why) × (journal_in bytes ≡ Ok j) × (first_illegal trees j.turns j.entries ≡ Some (entry, why))
TextRefusal trees bytes (cause.Unfinished thread) =
    (j : Journal) × (last : Config) × (journal_in bytes ≡ Ok j) × (replay trees j.turns j.entries ≡ Some last) × (first_able j.turns last ≡ Some thread)
TextRefusal trees bytes cause.NoMemory = ⊤
TextRefusal trees bytes why = ⊥

-- the text is this journal, whose end this is
abbrev pub IsReplayed : List BlockTree → List ℕ → Played → Type 0
IsReplayed trees bytes played = (journal_in bytes ≡ Ok (shown played.journal)) × IsPlayed trees played.outcome (shown played.journal)

-- The text was written whole, and nothing told; or a prefix of it, the count of faults of the sink rose, and that was told.
abbrev pub Wrote : (text : List ℕ) → (old new : Option (List ℕ)) → (rose : Type 0) → (told_before told_now : Option (List ℕ)) → (untold quiet : Type 0) → Result Unit Failed → Type 0
Wrote text old new rose told_before told_now untold quiet (Ok done) = Appends old new text × quiet
Wrote text old new rose told_before told_now untold quiet (Err failed) = GetsPrefix old new text × rose × GetsLine told_before told_now untold write_fault_line

-- a run with the rows of its table of links, where that is wanted
pub record IsRanSo (trees : List BlockTree) (turns : ℕ) (linked : Bool) (ran : Ran) : Type 0 where
  pub is_run : IsRun trees turns ran.played
  pub rows : rows_of ran.links.items ≡ link_rows linked trees (shown ran.played.journal)

-- what stands behind the threads in the output of a run, where it is asked for
abbrev pub behind_threads : (linked wanted : Bool) → (names : List (List ℕ)) → Ran → List ℕ
behind_threads linked wanted names ran = links_part linked names (rows_of ran.links.items) ++ journal_part wanted (shown ran.played.journal)

-- Sources within the limit, which are what the paths hold where they tell that, are accepted, and ran so.
pub record RunsOf (holds : List ℕ → Option (List ℕ)) (limit : ℕ) (paths : List (List ℕ)) (turns : ℕ) (linked : Bool) (ran : Ran) : Type 0 where
  pub sources : List (List ℕ)
  pub held : AreHeld holds limit paths sources
  pub trees : List Block
  pub accepted : AreAccepted sources trees
  pub is_run : IsRanSo (map block_tree trees) turns linked ran

-- With the bytes of the journal's file they were replayed so.
abbrev pub ReplaysOf : (List ℕ → Option (List ℕ)) → List (List ℕ) → List ℕ → Played → Type 0
ReplaysOf holds paths from played = WithJournal holds paths from (λ trees bytes. IsReplayed trees bytes played)

-- what a replay of a journal's bytes over sources comes to
abbrev pub SourcesReplay : List (List ℕ) → List ℕ → Result Played Cause → Type 0
SourcesReplay sources bytes (Ok played) = (trees : List Block) × AreAccepted sources trees × IsReplayed (map block_tree trees) bytes played
SourcesReplay sources bytes (Err (cause.Refused source fault)) = IsFirstRefused sources source fault
SourcesReplay sources bytes (Err cause.NoMemory) = ⊤
SourcesReplay sources bytes (Err why) = (trees : List Block) × AreAccepted sources trees × TextRefusal (map block_tree trees) bytes why
