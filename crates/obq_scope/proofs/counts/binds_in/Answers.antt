use Rattle.std.proofs.Common.{ap, ◌∙◌}
use Rattle.obq_scope.specs.Narrowed.{narrowed}
use Rattle.obq_scope.proofs.Counted.{binds_count}
use Rattle.obq_scope.proofs.counts.binds_in.Goals as goal

pub returns : goal.returns
returns c = c.length_of.ensures ∙ ap narrowed (binds_count c.args.binds.now)
