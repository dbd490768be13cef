use Rattle.std.proofs.Common.{◌≡◌, ◌++◌, drop}
use Rattle.obq_base.specs.View.{link_trees}
use Rattle.obq_model.specs.Draft.{operators_of}
use Rattle.obq_scope.proofs.counts.operators_in.Given as goal

abbrev pub invariant-loop-link : goal.invariant-loop-link
invariant-loop-link l = l.operators ++ operators_of (link_trees (drop l.link-index l.links)) ≡ operators_of (link_trees l.links)
