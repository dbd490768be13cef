use Rattle.std.proofs.Common.{ap, ◌∙◌}
use Rattle.obq_base.specs.View.{block_tree}
use Rattle.obq_names.specs.declared.walker.Walker.{Walker}
use Rattle.obq_names.proofs.Walks.{walks_source}
use Rattle.obq_names.proofs.names.find_names.Goals as goal

pub returns-clause-free : goal.returns-clause-free
returns-clause-free c =
    ap (λ (w : Walker). w.found) c.in_ok-walk_block.ensures
    ∙ (walks_source (block_tree c.args.block.now) c.new-walker.result c.new-walker.ensures.bound c.new-walker.ensures.base c.new-walker.ensures.names c.new-walker.ensures.found c.new-walker.ensures.captures).0

pub returns-clause-captures : goal.returns-clause-captures
returns-clause-captures c =
    ap (λ (w : Walker). w.captures) c.in_ok-walk_block.ensures
    ∙ (walks_source (block_tree c.args.block.now) c.new-walker.result c.new-walker.ensures.bound c.new-walker.ensures.base c.new-walker.ensures.names c.new-walker.ensures.found c.new-walker.ensures.captures).1
