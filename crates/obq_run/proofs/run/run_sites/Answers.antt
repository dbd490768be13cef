use Rattle.std.proofs.Common.{Bool, List, Option, ap, refl, subst, sym, ℕ, ◌++◌, ◌≡◌, ◌∙◌}
use Rattle.std.specs.List.{zip}
use Rattle.obq_base.specs.declared.limits.TheConstants.{SOURCE_LIMIT}
use Rattle.obq_io.specs.Causes.{Rose}
use Rattle.obq_journal.specs.Recording.{shown}
use Rattle.obq_model.specs.Journal.{Journal}
use Rattle.obq_model.specs.Output.{run_text}
use Rattle.obq_model.specs.Replay.{status}
use Rattle.obq_run.specs.Ends.{IsRanOrNoMemory}
use Rattle.obq_run.specs.Linked.{links_part}
use Rattle.obq_run.specs.Played.{RunsOf, behind_threads, output_text, texts_of}
use Rattle.obq_run.specs.Runs.{IsRunOf, RefusalCompletes, RunCompletes, TooLongCompletes, journal_part}
use Rattle.obq_run.specs.declared.run.Ran.{Ran}
use Rattle.obq_words.specs.Words.{names_of, paths_of}
use Rattle.obq_run.proofs.Complete.{source_refused}
use Rattle.obq_run.proofs.Histories.{on_ran, on_write_fault, played_history, text_with}
use Rattle.obq_run.proofs.Refusals.{refusal_finished, refusal_refused, too_long_finished, too_long_refused}
use Rattle.obq_run.proofs.run.run_sites.Goals as goal

-- sources that ran so have this output, with the journal behind it where it is wanted
ran_so : (holds : List ℕ → Option (List ℕ)) (names paths : List (List ℕ)) (turns : ℕ) (linked wanted : Bool) (ran : Ran) (part : List ℕ) (s : ℕ) → RunsOf holds SOURCE_LIMIT paths turns linked ran
    → part ≡ behind_threads linked wanted names ran → s ≡ status (ran.played.outcome.report)
    → IsRunOf holds SOURCE_LIMIT names paths turns linked wanted (shown ran.played.journal) (output_text names ran.played.outcome part) s
ran_so holds names paths turns linked wanted ran part s w is ended = record {
  sources = w.sources;
  held = w.held;
  trees = w.trees;
  accepted = w.accepted;
  outputs = texts_of ran.played.outcome.texts.items;
  threads = ran.played.outcome.report;
  history = played_history _ ran.played.outcome (shown ran.played.journal) w.is_run.is_run.is_played;
  turn_limit = w.is_run.is_run.turn_limit;
  each = w.is_run.is_run.each;
  output_text = text_with names ran.played.outcome part ∙ ap (λ t. run_text (zip names (texts_of ran.played.outcome.texts.items)) (ran.played.outcome.report) ++ t) (is ∙ ap (λ rows. links_part linked names rows ++ journal_part wanted (shown ran.played.journal)) w.is_run.rows);
  report_status = ended;
}

pub returns-in-Err-clause-completes : goal.returns-in-Err-clause-completes
returns-in-Err-clause-completes g c =
    let files = g.F.Files in
    let holds = files.holds c.args.files.now in
    let paths = paths_of c.args.sites.now in
    let Rises : List ℕ → Type 0 = λ p. Rose (files.faults c.args.files.now p) (files.faults c.run_files.new.files p) in
    let output : Type 0 = Rose (g.O.Sink.faults c.args.out.now) (g.O.Sink.faults c.args.out.now) in
    let why = c.in-Err.ensures in
    subst (λ cause. RunCompletes holds SOURCE_LIMIT paths Rises output cause) (sym c.refuse.ensures.cause) (source_refused IsRanOrNoMemory holds SOURCE_LIMIT paths Rises output c.in-Err.cause tt why.only why.read_fault why.too_long why.refused)

pub returns-in-Err-clause-completes_refused : goal.returns-in-Err-clause-completes_refused
returns-in-Err-clause-completes_refused g c =
    let files = g.F.Files in
    let holds = files.holds c.args.files.now in
    let paths = paths_of c.args.sites.now in
    let Rises : List ℕ → Type 0 = λ p. Rose (files.faults c.args.files.now p) (files.faults c.run_files.new.files p) in
    let why = c.in-Err.ensures in
    subst (λ cause. RefusalCompletes holds SOURCE_LIMIT paths Rises cause) (sym c.refuse.ensures.cause) (refusal_refused holds SOURCE_LIMIT paths Rises c.in-Err.cause why.only why.read_fault why.too_long why.refused)

pub returns-in-Err-clause-completes_too_long : goal.returns-in-Err-clause-completes_too_long
returns-in-Err-clause-completes_too_long g c =
    let files = g.F.Files in
    let holds = files.holds c.args.files.now in
    let paths = paths_of c.args.sites.now in
    let Rises : List ℕ → Type 0 = λ p. Rose (files.faults c.args.files.now p) (files.faults c.run_files.new.files p) in
    let why = c.in-Err.ensures in
    subst (λ cause. TooLongCompletes holds SOURCE_LIMIT paths Rises cause) (sym c.refuse.ensures.cause) (too_long_refused holds SOURCE_LIMIT paths Rises c.in-Err.cause why.only why.read_fault why.too_long why.refused)

pub returns-in-Ok-text_behind-clause-ran : goal.returns-in-Ok-text_behind-clause-ran
returns-in-Ok-text_behind-clause-ran g c =
    let holds = g.F.Files.holds c.args.files.now in
    let names = names_of c.args.sites.now in
    let paths = paths_of c.args.sites.now in
    let ran = c.in-Ok.ran in
    let played = ran.played in
    let part : List ℕ = c.deref.result.now in
    let is = c.deref.ensures.value ∙ c.in-Ok-text_behind.ensures in
    on_ran c.finish.result.cause _ _ (λ h. (
      output_text names played.outcome part,
      subst (λ (j : Journal). IsRunOf holds SOURCE_LIMIT names paths c.args.order.turns c.args.order.links c.args.order.journal j (output_text names played.outcome part) c.finish.result.status) (sym c.finish.ensures.journal)
          (ran_so holds names paths c.args.order.turns c.args.order.links c.args.order.journal ran part c.finish.result.status c.in-Ok.ensures.ran is h.0),
      h.1,
    )) c.finish.ensures.ran

pub returns-in-Ok-text_behind-clause-part : goal.returns-in-Ok-text_behind-clause-part
returns-in-Ok-text_behind-clause-part g c =
    let holds = g.F.Files.holds c.args.files.now in
    let names = names_of c.args.sites.now in
    let paths = paths_of c.args.sites.now in
    let ran = c.in-Ok.ran in
    let played = ran.played in
    let part : List ℕ = c.deref.result.now in
    let is = c.deref.ensures.value ∙ c.in-Ok-text_behind.ensures in
    let ended : ℕ = status (played.outcome.report) in
    on_write_fault c.finish.result.cause _ _ (λ prefix. (
      output_text names played.outcome part,
      ended,
      subst (λ (j : Journal). IsRunOf holds SOURCE_LIMIT names paths c.args.order.turns c.args.order.links c.args.order.journal j (output_text names played.outcome part) ended) (sym c.finish.ensures.journal)
          (ran_so holds names paths c.args.order.turns c.args.order.links c.args.order.journal ran part ended c.in-Ok.ensures.ran is refl),
      prefix,
    )) c.finish.ensures.part

pub returns-in-Ok-text_behind-clause-completes_refused : goal.returns-in-Ok-text_behind-clause-completes_refused
returns-in-Ok-text_behind-clause-completes_refused g c =
    let files = g.F.Files in
    let Rises : List ℕ → Type 0 = λ p. Rose (files.faults c.args.files.now p) (files.faults c.run_files.new.files p) in
    let runs : RunsOf (files.holds c.args.files.now) SOURCE_LIMIT (paths_of c.args.sites.now) c.args.order.turns c.args.order.links c.in-Ok.ran = c.in-Ok.ensures.ran in
    refusal_finished (files.holds c.args.files.now) SOURCE_LIMIT (paths_of c.args.sites.now) runs.sources runs.trees Rises c.finish.result.cause runs.held runs.accepted

pub returns-in-Ok-text_behind-clause-completes_too_long : goal.returns-in-Ok-text_behind-clause-completes_too_long
returns-in-Ok-text_behind-clause-completes_too_long g c =
    let files = g.F.Files in
    let Rises : List ℕ → Type 0 = λ p. Rose (files.faults c.args.files.now p) (files.faults c.run_files.new.files p) in
    let runs : RunsOf (files.holds c.args.files.now) SOURCE_LIMIT (paths_of c.args.sites.now) c.args.order.turns c.args.order.links c.in-Ok.ran = c.in-Ok.ensures.ran in
    too_long_finished (files.holds c.args.files.now) SOURCE_LIMIT (paths_of c.args.sites.now) runs.sources Rises c.finish.result.cause runs.held
