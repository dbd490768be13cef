use Rattle.std.proofs.Common.{arith, length, ◌≡◌}
use Rattle.obq_base.specs.declared.limits.TheConstants.{SOURCE_LIMIT}
use Rattle.obq_front.specs.Contents.{contents}
use Rattle.obq_run.specs.Held.{PathRose}
use Rattle.obq_words.specs.Words.{paths_of}
use Rattle.obq_run.proofs.Held.{as_many, within_held}
use Rattle.obq_run.proofs.Replayed.{refusal_held, replays_held}
use Rattle.obq_run.proofs.replay.replay_files.Goals as goal

pub replay_given-requires-clause-sources : goal.replay_given-requires-clause-sources
replay_given-requires-clause-sources g c =
    let items = c.in-Ok.given.sources.items in
    let many : length items ≡ length c.args.sites.now = as_many (g.F.Files.holds c.args.files.now) SOURCE_LIMIT c.args.sites.now items c.in-Ok.ensures.held in
    omega (arith, many, c.requires)

pub replay_given-requires-clause-within : goal.replay_given-requires-clause-within
replay_given-requires-clause-within g c = within_held (g.F.Files.holds c.args.files.now) SOURCE_LIMIT (paths_of c.args.sites.now) (contents c.in-Ok.given.sources.items) c.in-Ok.ensures.held

pub returns-clause-replayed : goal.returns-clause-replayed
returns-clause-replayed g c =
    let given = c.in-Ok.given in
    replays_held (g.F.Files.holds c.args.files.now) (paths_of c.args.sites.now) (contents given.sources.items) c.args.from.now given.journal.items c.replay_given.result c.in-Ok.ensures.held c.in-Ok.ensures.told c.in-Ok.ensures.within
    c.replay_given.ensures

pub returns-clause-refused : goal.returns-clause-refused
returns-clause-refused g c =
    let files = g.F.Files in
    let given = c.in-Ok.given in
    refusal_held (files.holds c.args.files.now) (PathRose (files.faults c.args.files.now) (files.faults c.read_given.new.files)) (paths_of c.args.sites.now) (contents given.sources.items) c.args.from.now given.journal.items
    c.replay_given.result c.in-Ok.ensures.held c.in-Ok.ensures.told c.in-Ok.ensures.within c.replay_given.ensures
