use Rattle.std.proofs.Common.{◌∷◌, [], ◌++◌}
use Rattle.obq_wire.specs.Walk.{IsBegun}
use Rattle.obq_wire.proofs.WalkLaws.{all_push, begun_next, begun_over, step_had, step_into, step_other_index, step_over, step_placed}
use Rattle.obq_wire.proofs.order.step.Goals as goal

pub returns-then-innermost-count : goal.returns-then-innermost-count
returns-then-innermost-count c = step_other_index c.args.table.now c.args.begun.now.items c.args.innermost c.args.count c.in-Nothing.ensures c.if-innermost-count.true

pub returns-else-innermost-count : goal.returns-else-innermost-count
returns-else-innermost-count c = (step_placed c.args.table.now c.args.begun.now.items c.args.innermost c.args.count c.in-Nothing.ensures c.if-innermost-count.false, c.requires.begun)

pub returns-in_ok-push-in-Other : goal.returns-in_ok-push-in-Other
returns-in_ok-push-in-Other c =
    let table = c.args.table.now in
    let n = c.in-Other.ensures in
    rw c.in_ok-push-in-Other.ensures.items (
      step_over table c.args.begun.now.items c.args.innermost c.args.count c.in-Other.after n.0 n.1,
      all_push (IsBegun table) c.args.begun.now.items c.in-Other.after c.requires.begun (begun_over table c.args.begun.now.items c.args.innermost c.args.count c.in-Other.after n.0 n.1 c.requires.innermost),
    )

pub returns-in_ok-push-in-Index-2 : goal.returns-in_ok-push-in-Index-2
returns-in_ok-push-in-Index-2 c =
    let table = c.args.table.now in
    let n = c.in-Index.ensures in
    let fits = begun_next table c.args.begun.now.items c.args.innermost c.args.count c.in-Index.after c.in-Index.index n.0 n.1 c.requires.innermost in
    let one = all_push (IsBegun table) c.args.begun.now.items c.in-Index.after c.requires.begun fits.1 in
    rw (c.in_ok-push-in-Index-2.ensures.items, c.in_ok-push-in-Index.ensures.items) (
      step_into table c.args.begun.now.items c.args.innermost c.args.count c.in-Index.after c.in-Index.index n.0 n.1 fits.0 c.if-index-count.true,
      all_push (IsBegun table) (c.args.begun.now.items ++ c.in-Index.after ∷ []) (record { index = c.in-Index.index; next = 0 }) one (c.requires.earlier c.in-Index.index),
    )

pub returns-else-index-count : goal.returns-else-index-count
returns-else-index-count c =
    let table = c.args.table.now in
    let n = c.in-Index.ensures in
    let fits = begun_next table c.args.begun.now.items c.args.innermost c.args.count c.in-Index.after c.in-Index.index n.0 n.1 c.requires.innermost in
    rw c.in_ok-push-in-Index.ensures.items (
      step_had table c.args.begun.now.items c.args.innermost c.args.count c.in-Index.after c.in-Index.index n.0 n.1 fits.0 c.if-index-count.false,
      all_push (IsBegun table) c.args.begun.now.items c.in-Index.after c.requires.begun fits.1,
    )
