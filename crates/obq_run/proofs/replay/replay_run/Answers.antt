use Rattle.std.proofs.Common.{List, Option, [], refl, subst, sym, ℕ, ◌≡◌}
use Rattle.obq_io.specs.Causes.{Rose}
use Rattle.obq_journal.specs.Recording.{shown}
use Rattle.obq_model.specs.Journal.{Journal}
use Rattle.obq_model.specs.Replay.{status}
use Rattle.obq_run.specs.Played.{IsReplayed, output_text, texts_of}
use Rattle.obq_run.specs.Runs.{ReplayCompletes, ReplaysTo, WithJournal}
use Rattle.obq_run.specs.declared.playing.Played.{Played}
use Rattle.obq_words.specs.Words.{names_of, paths_of}
use Rattle.obq_run.proofs.Complete.{replay_refused}
use Rattle.obq_run.proofs.Histories.{on_replayed, on_write_fault, plain_text, played_history}
use Rattle.obq_run.proofs.replay.replay_run.Goals as goal

-- a journal that was replayed so leads to this output
leads_to : (holds : List ℕ → Option (List ℕ)) (names paths : List (List ℕ)) (from : List ℕ) (played : Played) (s : ℕ) → WithJournal holds paths from (λ trees bytes. IsReplayed trees bytes played)
    → s ≡ status (played.outcome.report) → WithJournal holds paths from (ReplaysTo names (shown played.journal) (output_text names played.outcome []) s)
leads_to holds names paths from played s w is = record {
  sources = w.sources;
  held = w.held;
  trees = w.trees;
  accepted = w.accepted;
  bytes = w.bytes;
  told = w.told;
  within = w.within;
  is_so = (
    texts_of played.outcome.texts.items,
    played.outcome.report,
    w.is_so.0,
    played_history _ played.outcome (shown played.journal) w.is_so.1,
    plain_text names played.outcome,
    is,
  );
}

pub returns-in-Ok-clause-replayed : goal.returns-in-Ok-clause-replayed
returns-in-Ok-clause-replayed g c =
    let holds = g.F.Files.holds c.args.files.now in
    let names = names_of c.args.sites.now in
    let played = c.in-Ok.played in
    on_replayed c.finish.result.cause _ _ (λ h. (
      output_text names played.outcome [],
      subst (λ (j : Journal). WithJournal holds (paths_of c.args.sites.now) c.args.from.now (ReplaysTo names j (output_text names played.outcome []) c.finish.result.status)) (sym h.0)
          (leads_to holds names (paths_of c.args.sites.now) c.args.from.now played c.finish.result.status c.in-Ok.ensures.replayed h.1),
      h.2,
    )) c.finish.ensures.replayed

pub returns-in-Ok-clause-part : goal.returns-in-Ok-clause-part
returns-in-Ok-clause-part g c =
    let holds = g.F.Files.holds c.args.files.now in
    let names = names_of c.args.sites.now in
    let played = c.in-Ok.played in
    on_write_fault c.finish.result.cause _ _ (λ prefix. (
      shown played.journal,
      output_text names played.outcome [],
      status (played.outcome.report),
      leads_to holds names (paths_of c.args.sites.now) c.args.from.now played (status (played.outcome.report)) c.in-Ok.ensures.replayed refl,
      prefix,
    )) c.finish.ensures.part

pub returns-in-Err-clause-completes : goal.returns-in-Err-clause-completes
returns-in-Err-clause-completes g c =
    let files = g.F.Files in
    let holds = files.holds c.args.files.now in
    let paths = paths_of c.args.sites.now in
    let Rises : List ℕ → Type 0 = λ p. Rose (files.faults c.args.files.now p) (files.faults c.replay_files.new.files p) in
    let output : Type 0 = Rose (g.O.Sink.faults c.args.out.now) (g.O.Sink.faults c.args.out.now) in
    subst (λ cause. ReplayCompletes holds paths c.args.from.now Rises output cause) (sym c.refuse.ensures.cause) (replay_refused holds paths c.args.from.now Rises output c.in-Err.cause c.in-Err.ensures.refused)
