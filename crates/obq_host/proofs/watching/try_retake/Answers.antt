use Rattle.std.proofs.Common.{Some, option_map, rules, ◌≡◌}
use Rattle.obq_except.specs.declared.operations.Operation.TheVariants as o
use Rattle.obq_heap.specs.Heap.{cell_at, placed_at}
use Rattle.obq_host.proofs.Finished.{tried_again}
use Rattle.obq_host.proofs.watching.try_retake.Goals as goal

pub returns : goal.returns
returns c =
    let is : c.args.operation.now ≡ o.Again c.in-Again.object c.in-Again.condition = search rules in
    let loc : option_map (λ p. p.born) (placed_at c.args.heap.now c.in-Again.object) ≡ Some c.in-Some.loc = search rules in
    let there : cell_at c.args.heap.now c.in-Again.condition ≡ Some c.in-Some-get.line.now = search rules in
    tried_again c.args.thread.0 c.args.operation.now c.args.after c.args.heap.now _ c.again-outcome.new.heap c.in-Again.object c.in-Again.condition c.in-Some-get.line.now c.is_lined-lined.result is loc there c.is_lined-lined.ensures (search rules) c.again-outcome.ensures
