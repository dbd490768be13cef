-- What a run came to, and its output.
use Rattle.std.proofs.Common.{List, Some, [], ap, append_assoc, length, sym, ℕ, ◌++◌, ◌≡◌, ◌∙◌}
use Rattle.std.proofs.lemmas.List.{append-nil}
use Rattle.std.specs.List.{zip}
use Rattle.std.specs.Prelude.{OnOk, Err, Ok, Result}
use Rattle.obq_base.specs.Tree.{BlockTree}
use Rattle.obq_laws.proofs.Exclusion.{exclusion_law}
use Rattle.obq_model.specs.Journal.{Journal}
use Rattle.obq_model.specs.Output.{report_line, run_text}
use Rattle.obq_model.specs.Replay.{IsOver, output, replay, report}
use Rattle.obq_plain.specs.PlainStates.{PlainState}
use Rattle.obq_run.specs.declared.ends.Cause.{Cause}
use Rattle.obq_run.specs.declared.ends.Cause.TheVariants as cause
use Rattle.obq_run.specs.Ends.{OnRan, OnReplayed, OnWriteFault}
use Rattle.obq_run.specs.Played.{IsPlayed, output_text, sites_text, texts_of}
use Rattle.obq_run.specs.Runs.{IsHistoryOf}
use Rattle.obq_run.specs.declared.outcome.Outcome.{Outcome}

pub played_history : (trees : List BlockTree) (o : Outcome) (j : Journal) → IsPlayed trees o j → IsHistoryOf trees j (texts_of o.texts.items) o.report
played_history trees o j h =
    let apart = exclusion_law trees j.turns j.entries in
    record { last = h.last; replays = h.replays; over = h.over; written = h.written; reported = h.reported; holds = apart.0; migrations = apart.1 }

-- a machine that stands where the journal leads came to this
pub machine_played : (trees : List BlockTree) (m : PlainState) (o : Outcome) (j : Journal) → m.sites ≡ length trees → m.turns ≡ j.turns → replay trees j.turns j.entries ≡ Some m.config → IsOver j.turns m.config
    → texts_of o.texts.items ≡ output m.sites m.config → o.report ≡ report m.turns m.config → IsPlayed trees o j
machine_played trees m o j sites turns replays over texts reported = record {
  last = m.config;
  replays = replays;
  over = over;
  written = ap (λ n. output n m.config) (sym sites) ∙ sym texts;
  reported = ap (λ n. report n m.config) (sym turns) ∙ sym reported;
}

pub plain_text : (names : List (List ℕ)) (o : Outcome) → output_text names o [] ≡ run_text (zip names (texts_of o.texts.items)) o.report
plain_text names o = ap (λ t. sites_text (zip names (texts_of o.texts.items)) ++ t) (append-nil (report_line o.report))

pub text_with : (names : List (List ℕ)) (o : Outcome) (part : List ℕ) → output_text names o part ≡ run_text (zip names (texts_of o.texts.items)) o.report ++ part
text_with names o part = sym (append_assoc (sites_text (zip names (texts_of o.texts.items))) (report_line o.report) part)

pub on_ok : {T E : Type 0} (r : Result T E) (P Q : Type 0) → (P → Q) → OnOk r P → OnOk r Q
on_ok (Ok x) P Q f h = f h
on_ok (Err e) P Q f h = tt

-- what holds at an end, carried over
pub on_ran : (c : Cause) (P Q : Type 0) → (P → Q) → OnRan c P → OnRan c Q
on_ran cause.Ran P Q f h = f h
on_ran cause.Checked P Q f h = tt
on_ran cause.Replayed P Q f h = tt
on_ran (cause.Usage word) P Q f h = tt
on_ran (cause.TooManySites word) P Q f h = tt
on_ran (cause.SourceTooLong s) P Q f h = tt
on_ran cause.JournalTooLong P Q f h = tt
on_ran (cause.Refused s why) P Q f h = tt
on_ran (cause.ReadFault file) P Q f h = tt
on_ran cause.WriteFault P Q f h = tt
on_ran (cause.BadJournal line) P Q f h = tt
on_ran (cause.NotLegal entry) P Q f h = tt
on_ran (cause.Unfinished thread) P Q f h = tt
on_ran cause.NoMemory P Q f h = tt

pub on_replayed : (c : Cause) (P Q : Type 0) → (P → Q) → OnReplayed c P → OnReplayed c Q
on_replayed cause.Ran P Q f h = tt
on_replayed cause.Checked P Q f h = tt
on_replayed cause.Replayed P Q f h = f h
on_replayed (cause.Usage word) P Q f h = tt
on_replayed (cause.TooManySites word) P Q f h = tt
on_replayed (cause.SourceTooLong s) P Q f h = tt
on_replayed cause.JournalTooLong P Q f h = tt
on_replayed (cause.Refused s why) P Q f h = tt
on_replayed (cause.ReadFault file) P Q f h = tt
on_replayed cause.WriteFault P Q f h = tt
on_replayed (cause.BadJournal line) P Q f h = tt
on_replayed (cause.NotLegal entry) P Q f h = tt
on_replayed (cause.Unfinished thread) P Q f h = tt
on_replayed cause.NoMemory P Q f h = tt

pub on_write_fault : (c : Cause) (P Q : Type 0) → (P → Q) → OnWriteFault c P → OnWriteFault c Q
on_write_fault cause.Ran P Q f h = tt
on_write_fault cause.Checked P Q f h = tt
on_write_fault cause.Replayed P Q f h = tt
on_write_fault (cause.Usage word) P Q f h = tt
on_write_fault (cause.TooManySites word) P Q f h = tt
on_write_fault (cause.SourceTooLong s) P Q f h = tt
on_write_fault cause.JournalTooLong P Q f h = tt
on_write_fault (cause.Refused s why) P Q f h = tt
on_write_fault (cause.ReadFault file) P Q f h = tt
on_write_fault cause.WriteFault P Q f h = f h
on_write_fault (cause.BadJournal line) P Q f h = tt
on_write_fault (cause.NotLegal entry) P Q f h = tt
on_write_fault (cause.Unfinished thread) P Q f h = tt
on_write_fault cause.NoMemory P Q f h = tt
