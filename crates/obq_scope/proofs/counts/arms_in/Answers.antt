use Rattle.std.proofs.Common.{ap, ◌∙◌}
use Rattle.obq_scope.specs.Narrowed.{narrowed}
use Rattle.obq_scope.proofs.Counted.{arms_count}
use Rattle.obq_scope.proofs.counts.arms_in.Goals as goal

pub returns : goal.returns
returns c = c.length_of.ensures ∙ ap narrowed (arms_count c.args.arms.now)
