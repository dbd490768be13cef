use Rattle.std.proofs.Common.{List, subst, sym}
use Rattle.obq_base.specs.declared.limits.TheConstants.{SOURCE_LIMIT}
use Rattle.obq_front.specs.Contents.{AllWithin, contents}
use Rattle.obq_front.specs.declared.program.Source.{Source}
use Rattle.obq_words.specs.Words.{paths_of}
use Rattle.obq_run.proofs.Held.{within_held}
use Rattle.obq_run.proofs.accepted.accepted_sources.Goals as goal

pub front-requires-clause-within : goal.front-requires-clause-within
front-requires-clause-within g c =
    let items = c.in-Ok.sources.items in
    let within : AllWithin SOURCE_LIMIT (contents items) = within_held (g.F.Files.holds c.args.files.now) SOURCE_LIMIT (paths_of c.args.sites.now) (contents items) c.in-Ok.ensures.held in
    subst (λ (ss : List Source). AllWithin SOURCE_LIMIT (contents ss)) (sym c.deref.ensures.value) within
