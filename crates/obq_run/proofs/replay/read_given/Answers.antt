use Rattle.std.proofs.Common.{List, length, subst, sym, ℕ, ◌≡◌}
use Rattle.std.proofs.lemmas.List.{length-map}
use Rattle.std.specs.String.{string_bytes}
use Rattle.obq_base.specs.declared.limits.TheConstants.{SOURCE_LIMIT}
use Rattle.obq_front.specs.Contents.{contents}
use Rattle.obq_run.specs.Held.{PathRose}
use Rattle.obq_run.specs.Runs.{ReplayRefusal}
use Rattle.obq_words.specs.Words.{paths_of}
use Rattle.obq_run.proofs.Replayed.{held_within, rises_since, unread_journal, unread_source}
use Rattle.obq_run.proofs.replay.read_given.Goals as goal

pub returns-in-Err-clause-unread : goal.returns-in-Err-clause-unread
returns-in-Err-clause-unread g c =
    let files = g.F.Files in
    let holds = files.holds c.args.files.now in
    let paths = paths_of c.args.sites.now in
    let Rises : List ℕ → Type 0 = PathRose (files.faults c.args.files.now) (files.faults c.read_sources.new.files) in
    subst (ReplayRefusal holds Rises paths c.args.from.now) (sym c.cause_of.ensures) (unread_source holds Rises paths c.args.from.now c.in-Err.refused.file c.in-Err.refused.why c.in-Err.ensures.unread)

pub returns-in-Err-read_file-clause-unread : goal.returns-in-Err-read_file-clause-unread
returns-in-Err-read_file-clause-unread g c =
    let files = g.F.Files in
    let holds = files.holds c.args.files.now in
    let sites = c.args.sites.now in
    let paths = paths_of sites in
    let from = c.args.from.now in
    let Rises : List ℕ → Type 0 = PathRose (files.faults c.args.files.now) (files.faults c.read_file.new.files) in
    let within = held_within holds SOURCE_LIMIT paths (contents c.in-Ok.sources.items) c.in-Ok.ensures.held in
    let many : length sites ≡ length paths = sym (length-map sites (λ s. string_bytes s.path)) in
    let why = rises_since (files.faults c.args.files.now from) (files.faults c.read_sources.new.files from) (files.faults c.read_file.new.files from) c.in-Err-read_file.refused
    (files.holds c.read_sources.new.files from) (holds from) (c.read_sources.ensures.later from) (c.read_sources.ensures.same from) c.in-Err-read_file.ensures.unread in
    subst (ReplayRefusal holds Rises paths from) (sym c.journal_cause.ensures) (unread_journal holds Rises paths from _ c.in-Err-read_file.refused many within why)
