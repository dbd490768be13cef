use Rattle.std.proofs.Common.{List, Ok, subst, sym, ℕ, ◌≡◌, ◌∙◌}
use Rattle.obq_base.specs.declared.limits.TheConstants.{SOURCE_LIMIT}
use Rattle.obq_io.specs.Causes.{Rose}
use Rattle.obq_words.specs.declared.words.Order.TheVariants.{Check, Replay, Run}
use Rattle.obq_words.specs.declared.words.SiteWord.{SiteWord}
use Rattle.obq_run.specs.Ends.{GetsLine, line_of}
use Rattle.obq_run.specs.Runs.{CheckCompletes, RefusalCompletes, ReplayCompletes, ReplayRefusal, RunCompletes, TooLongCompletes}
use Rattle.obq_words.specs.CommandLine.{journal_path}
use Rattle.obq_words.specs.Words.{Answers, AreInForm, AreSites, bytes_of, given_names, paths_of}
use Rattle.obq_words.proofs.InForm.{in_form}
use Rattle.obq_run.proofs.top.obliq.Goals as goal

pub run_sites-requires : goal.run_sites-requires
run_sites-requires g c =
    let words : List (List ℕ) = bytes_of c.args.words.now in
    let given : Answers words (Ok (Run c.in-Ok-Run.turns c.in-Ok-Run.workers c.in-Ok-Run.journal c.in-Ok-Run.links c.in-Ok-Run.sites)) = subst (λ order. Answers words (Ok order)) c.in-Ok-Run.field-0-is c.in-Ok-Run.ensures in
    let sites : AreSites words c.in-Ok-Run.sites.items = given.9 in
    subst AreInForm (sym c.deref.ensures.value) (in_form words c.in-Ok-Run.sites.items given.0 sites)

pub check_sources-requires : goal.check_sources-requires
check_sources-requires g c =
    let words : List (List ℕ) = bytes_of c.args.words.now in
    let given : Answers words (Ok (Check c.in-Ok-Check.sites)) = subst (λ order. Answers words (Ok order)) c.in-Ok-Check.field-0-is c.in-Ok-Check.ensures in
    let sites : AreSites words c.in-Ok-Check.sites.items = given.2 in
    subst AreInForm (sym c.deref-in-Ok-Check.ensures.value) (in_form words c.in-Ok-Check.sites.items given.0 sites)

pub replay_run-requires : goal.replay_run-requires
replay_run-requires g c =
    let words : List (List ℕ) = bytes_of c.args.words.now in
    let given : Answers words (Ok (Replay c.in-Ok-Replay.from c.in-Ok-Replay.sites)) = subst (λ order. Answers words (Ok order)) c.in-Ok-Replay.field-0-is c.in-Ok-Replay.ensures in
    let sites : AreSites words c.in-Ok-Replay.sites.items = given.4 in
    subst AreInForm (sym c.deref-in-Ok-Replay.ensures.value) (in_form words c.in-Ok-Replay.sites.items given.0 sites)

pub returns-in-Ok-Run-clause-completes : goal.returns-in-Ok-Run-clause-completes
returns-in-Ok-Run-clause-completes g c =
    let files = g.F.Files in
    let words : List (List ℕ) = bytes_of c.args.words.now in
    let given : Answers words (Ok (Run c.in-Ok-Run.turns c.in-Ok-Run.workers c.in-Ok-Run.journal c.in-Ok-Run.links c.in-Ok-Run.sites)) = subst (λ order. Answers words (Ok order)) c.in-Ok-Run.field-0-is c.in-Ok-Run.ensures in
    let sites : AreSites words c.in-Ok-Run.sites.items = given.9 in
    let holds = files.holds c.args.files.now in
    let Rises : List ℕ → Type 0 = λ p. Rose (files.faults c.args.files.now p) (files.faults c.run_sites.new.files p) in
    let output : Type 0 = Rose (g.O.Sink.faults c.args.out.now) (g.O.Sink.faults c.run_sites.new.out) in
    let cause = c.run_sites.result.cause in
    let at_sites : RunCompletes holds SOURCE_LIMIT (paths_of c.in-Ok-Run.sites.items) Rises output cause =
    subst (λ (s : List SiteWord). RunCompletes holds SOURCE_LIMIT (paths_of s) Rises output cause) c.deref.ensures.value c.run_sites.ensures.completes in
    λ good run not_replay. subst (λ paths. RunCompletes holds SOURCE_LIMIT paths Rises output cause) sites.paths at_sites

pub returns-in-Ok-Check-clause-completes_check : goal.returns-in-Ok-Check-clause-completes_check
returns-in-Ok-Check-clause-completes_check g c =
    let files = g.F.Files in
    let words : List (List ℕ) = bytes_of c.args.words.now in
    let given : Answers words (Ok (Check c.in-Ok-Check.sites)) = subst (λ order. Answers words (Ok order)) c.in-Ok-Check.field-0-is c.in-Ok-Check.ensures in
    let sites : AreSites words c.in-Ok-Check.sites.items = given.2 in
    let holds = files.holds c.args.files.now in
    let Rises : List ℕ → Type 0 = λ p. Rose (files.faults c.args.files.now p) (files.faults c.check_sources.new.files p) in
    let output : Type 0 = Rose (g.O.Sink.faults c.args.out.now) (g.O.Sink.faults c.check_sources.new.out) in
    let cause = c.check_sources.result.cause in
    let at_sites : CheckCompletes holds SOURCE_LIMIT (paths_of c.in-Ok-Check.sites.items) Rises output cause =
    subst (λ (s : List SiteWord). CheckCompletes holds SOURCE_LIMIT (paths_of s) Rises output cause) c.deref-in-Ok-Check.ensures.value c.check_sources.ensures.completes in
    λ good check. subst (λ paths. CheckCompletes holds SOURCE_LIMIT paths Rises output cause) sites.paths at_sites

pub returns-in-Ok-Run-clause-completes_refused : goal.returns-in-Ok-Run-clause-completes_refused
returns-in-Ok-Run-clause-completes_refused g c =
    let files = g.F.Files in
    let words : List (List ℕ) = bytes_of c.args.words.now in
    let given : Answers words (Ok (Run c.in-Ok-Run.turns c.in-Ok-Run.workers c.in-Ok-Run.journal c.in-Ok-Run.links c.in-Ok-Run.sites)) = subst (λ order. Answers words (Ok order)) c.in-Ok-Run.field-0-is c.in-Ok-Run.ensures in
    let sites : AreSites words c.in-Ok-Run.sites.items = given.9 in
    let holds = files.holds c.args.files.now in
    let Rises : List ℕ → Type 0 = λ p. Rose (files.faults c.args.files.now p) (files.faults c.run_sites.new.files p) in
    let cause = c.run_sites.result.cause in
    let at_sites : RefusalCompletes holds SOURCE_LIMIT (paths_of c.in-Ok-Run.sites.items) Rises cause =
    subst (λ (s : List SiteWord). RefusalCompletes holds SOURCE_LIMIT (paths_of s) Rises cause) c.deref.ensures.value c.run_sites.ensures.completes_refused in
    λ good not_replay. subst (λ paths. RefusalCompletes holds SOURCE_LIMIT paths Rises cause) sites.paths at_sites

pub returns-in-Ok-Run-clause-completes_too_long : goal.returns-in-Ok-Run-clause-completes_too_long
returns-in-Ok-Run-clause-completes_too_long g c =
    let files = g.F.Files in
    let words : List (List ℕ) = bytes_of c.args.words.now in
    let given : Answers words (Ok (Run c.in-Ok-Run.turns c.in-Ok-Run.workers c.in-Ok-Run.journal c.in-Ok-Run.links c.in-Ok-Run.sites)) = subst (λ order. Answers words (Ok order)) c.in-Ok-Run.field-0-is c.in-Ok-Run.ensures in
    let sites : AreSites words c.in-Ok-Run.sites.items = given.9 in
    let holds = files.holds c.args.files.now in
    let Rises : List ℕ → Type 0 = λ p. Rose (files.faults c.args.files.now p) (files.faults c.run_sites.new.files p) in
    let cause = c.run_sites.result.cause in
    let at_sites : TooLongCompletes holds SOURCE_LIMIT (paths_of c.in-Ok-Run.sites.items) Rises cause =
    subst (λ (s : List SiteWord). TooLongCompletes holds SOURCE_LIMIT (paths_of s) Rises cause) c.deref.ensures.value c.run_sites.ensures.completes_too_long in
    λ good not_replay. subst (λ paths. TooLongCompletes holds SOURCE_LIMIT paths Rises cause) sites.paths at_sites

pub returns-in-Ok-Check-clause-completes_refused : goal.returns-in-Ok-Check-clause-completes_refused
returns-in-Ok-Check-clause-completes_refused g c =
    let files = g.F.Files in
    let words : List (List ℕ) = bytes_of c.args.words.now in
    let given : Answers words (Ok (Check c.in-Ok-Check.sites)) = subst (λ order. Answers words (Ok order)) c.in-Ok-Check.field-0-is c.in-Ok-Check.ensures in
    let sites : AreSites words c.in-Ok-Check.sites.items = given.2 in
    let holds = files.holds c.args.files.now in
    let Rises : List ℕ → Type 0 = λ p. Rose (files.faults c.args.files.now p) (files.faults c.check_sources.new.files p) in
    let cause = c.check_sources.result.cause in
    let at_sites : RefusalCompletes holds SOURCE_LIMIT (paths_of c.in-Ok-Check.sites.items) Rises cause =
    subst (λ (s : List SiteWord). RefusalCompletes holds SOURCE_LIMIT (paths_of s) Rises cause) c.deref-in-Ok-Check.ensures.value c.check_sources.ensures.completes_refused in
    λ good not_replay. subst (λ paths. RefusalCompletes holds SOURCE_LIMIT paths Rises cause) sites.paths at_sites

pub returns-in-Ok-Check-clause-completes_too_long : goal.returns-in-Ok-Check-clause-completes_too_long
returns-in-Ok-Check-clause-completes_too_long g c =
    let files = g.F.Files in
    let words : List (List ℕ) = bytes_of c.args.words.now in
    let given : Answers words (Ok (Check c.in-Ok-Check.sites)) = subst (λ order. Answers words (Ok order)) c.in-Ok-Check.field-0-is c.in-Ok-Check.ensures in
    let sites : AreSites words c.in-Ok-Check.sites.items = given.2 in
    let holds = files.holds c.args.files.now in
    let Rises : List ℕ → Type 0 = λ p. Rose (files.faults c.args.files.now p) (files.faults c.check_sources.new.files p) in
    let cause = c.check_sources.result.cause in
    let at_sites : TooLongCompletes holds SOURCE_LIMIT (paths_of c.in-Ok-Check.sites.items) Rises cause =
    subst (λ (s : List SiteWord). TooLongCompletes holds SOURCE_LIMIT (paths_of s) Rises cause) c.deref-in-Ok-Check.ensures.value c.check_sources.ensures.completes_too_long in
    λ good not_replay. subst (λ paths. TooLongCompletes holds SOURCE_LIMIT paths Rises cause) sites.paths at_sites

pub returns-in-Ok-Replay-clause-completes_replay : goal.returns-in-Ok-Replay-clause-completes_replay
returns-in-Ok-Replay-clause-completes_replay g c =
    let files = g.F.Files in
    let words : List (List ℕ) = bytes_of c.args.words.now in
    let given : Answers words (Ok (Replay c.in-Ok-Replay.from c.in-Ok-Replay.sites)) = subst (λ order. Answers words (Ok order)) c.in-Ok-Replay.field-0-is c.in-Ok-Replay.ensures in
    let sites : AreSites words c.in-Ok-Replay.sites.items = given.4 in
    let holds = files.holds c.args.files.now in
    let Rises : List ℕ → Type 0 = λ p. Rose (files.faults c.args.files.now p) (files.faults c.replay_run.new.files p) in
    let output : Type 0 = Rose (g.O.Sink.faults c.args.out.now) (g.O.Sink.faults c.replay_run.new.out) in
    let cause = c.replay_run.result.cause in
    let from : List ℕ = c.as_str.result.now in
    let is : from ≡ journal_path words = c.as_str.ensures.value ∙ given.3 in
    let at_sites : ReplayCompletes holds (paths_of c.in-Ok-Replay.sites.items) from Rises output cause =
    subst (λ (s : List SiteWord). ReplayCompletes holds (paths_of s) from Rises output cause) c.deref-in-Ok-Replay.ensures.value c.replay_run.ensures.completes in
    λ good replay. subst (λ paths. ReplayCompletes holds paths (journal_path words) Rises output cause) sites.paths
    (subst (λ path. ReplayCompletes holds (paths_of c.in-Ok-Replay.sites.items) path Rises output cause) is at_sites)

pub returns-in-Ok-Replay-clause-not_replayed : goal.returns-in-Ok-Replay-clause-not_replayed
returns-in-Ok-Replay-clause-not_replayed g c =
    let files = g.F.Files in
    let words : List (List ℕ) = bytes_of c.args.words.now in
    let given : Answers words (Ok (Replay c.in-Ok-Replay.from c.in-Ok-Replay.sites)) = subst (λ order. Answers words (Ok order)) c.in-Ok-Replay.field-0-is c.in-Ok-Replay.ensures in
    let sites : AreSites words c.in-Ok-Replay.sites.items = given.4 in
    let holds = files.holds c.args.files.now in
    let Rises : List ℕ → Type 0 = λ p. Rose (files.faults c.args.files.now p) (files.faults c.replay_run.new.files p) in
    let cause = c.replay_run.result.cause in
    let from : List ℕ = c.as_str.result.now in
    let is : from ≡ journal_path words = c.as_str.ensures.value ∙ given.3 in
    λ good replay refusal.
    let at_sites : ReplayRefusal holds Rises (paths_of c.in-Ok-Replay.sites.items) from cause =
    subst (λ (s : List SiteWord). ReplayRefusal holds Rises (paths_of s) from cause) c.deref-in-Ok-Replay.ensures.value (c.replay_run.ensures.refused refusal) in
    subst (λ paths. ReplayRefusal holds Rises paths (journal_path words) cause) sites.paths
    (subst (λ path. ReplayRefusal holds Rises (paths_of c.in-Ok-Replay.sites.items) path cause) is at_sites)

pub returns-in-Err-Usage-clause-told : goal.returns-in-Err-Usage-clause-told
returns-in-Err-Usage-clause-told g c =
    let sink = g.E.Sink in
    let names = given_names (bytes_of c.args.words.now) in
    subst (λ cause. GetsLine (sink.written c.args.err.now) (sink.written c.refuse.new.err) (Rose (sink.faults c.args.err.now) (sink.faults c.refuse.new.err)) (line_of names cause)) (sym c.refuse.ensures.cause) c.refuse.ensures.told

pub returns-in-Err-TooManySites-clause-told : goal.returns-in-Err-TooManySites-clause-told
returns-in-Err-TooManySites-clause-told g c =
    let sink = g.E.Sink in
    let names = given_names (bytes_of c.args.words.now) in
    subst (λ cause. GetsLine (sink.written c.args.err.now) (sink.written c.refuse-in-Err-TooManySites.new.err) (Rose (sink.faults c.args.err.now) (sink.faults c.refuse-in-Err-TooManySites.new.err)) (line_of names cause)) (sym c.refuse-in-Err-TooManySites.ensures.cause) c.refuse-in-Err-TooManySites.ensures.told
