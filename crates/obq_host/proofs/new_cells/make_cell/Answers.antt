use Rattle.std.proofs.Common.{Some, rules, subst, ◌≡◌}
use Rattle.obq_host.proofs.Finished.{makes_cell}
use Rattle.obq_host.specs.Acting.{FinishedAs}
use Rattle.obq_moves.specs.Views.{plain_after, plain_operation, shown}
use Rattle.obq_site.specs.Outcomes.{how}
use Rattle.obq_host.proofs.new_cells.make_cell.Goals as goal

pub returns : goal.returns
returns c =
    let is : c.in_ok-made.made ≡ Some c.in-Some.done = search rules in
    makes_cell c.args.codes.now c.args.born c.args.heap.now c.args.w.now c.in_ok-tried.tried c.try_new.new.heap c.in-Some.done (shown c.finish.new.w) c.in_ok-tried.ensures
    (λ op after e. subst (λ made. FinishedAs c.args.codes.now (plain_operation op) (plain_after after) (how c.in_ok-tried.tried.outcome) c.in_ok-tried.tried.loc (shown c.args.w.now) made (shown c.finish.new.w)) is (c.in_ok-made.ensures.acted op after e))
