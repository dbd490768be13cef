use Rattle.std.proofs.Common.{ap, ◌∙◌}
use Rattle.obq_scope.specs.Narrowed.{narrowed}
use Rattle.obq_scope.proofs.Counted.{suffixes_count}
use Rattle.obq_scope.proofs.counts.suffixes_in.Goals as goal

pub returns : goal.returns
returns c = c.length_of.ensures ∙ ap narrowed (suffixes_count c.args.suffixes.now)
