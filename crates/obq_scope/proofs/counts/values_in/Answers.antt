use Rattle.std.proofs.Common.{ap, ◌∙◌}
use Rattle.obq_scope.specs.Narrowed.{narrowed}
use Rattle.obq_scope.proofs.Counted.{exprs_count}
use Rattle.obq_scope.proofs.counts.values_in.Goals as goal

pub returns : goal.returns
returns c = c.length_of.ensures ∙ ap narrowed (exprs_count c.args.values.now)
