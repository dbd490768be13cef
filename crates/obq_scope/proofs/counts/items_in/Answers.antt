use Rattle.std.proofs.Common.{ap, ◌∙◌}
use Rattle.obq_scope.specs.Narrowed.{narrowed}
use Rattle.obq_scope.proofs.Counted.{items_count}
use Rattle.obq_scope.proofs.counts.items_in.Goals as goal

pub returns : goal.returns
returns c = c.length_of.ensures ∙ ap narrowed (items_count c.args.items.now)
