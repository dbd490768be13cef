use Rattle.std.proofs.Common.{subst, sym}
use Rattle.obq_host.specs.OnCells.{ActsOnCells, OnNew, OnOne, OnWatch}
use Rattle.obq_moves.specs.Views.{shown}
use Rattle.obq_site.specs.Cells.{plain_heap}
use Rattle.obq_host.proofs.on_cells.act_on_cells.Goals as goal

pub returns-in_ok-act_at_one-in-One-clause-acted : goal.returns-in_ok-act_at_one-in-One-clause-acted
returns-in_ok-act_at_one-in-One-clause-acted c =
    subst (λ d. ActsOnCells c.args.codes.now c.args.thread.0 c.args.heap.now c.args.born (shown c.args.w.now) (plain_heap c.act_at_one.new.heap) (shown c.act_at_one.new.w) d) (sym c.old_cells.ensures)
    (OnOne c.in_ok-act_at_one-in-One.field-0 c.in_ok-act_at_one-in-One.ensures.acted)

pub returns-in_ok-retake-in-Watch-clause-acted : goal.returns-in_ok-retake-in-Watch-clause-acted
returns-in_ok-retake-in-Watch-clause-acted c =
    subst (λ d. ActsOnCells c.args.codes.now c.args.thread.0 c.args.heap.now c.args.born (shown c.args.w.now) (plain_heap c.retake.new.heap) (shown c.retake.new.w) d) (sym c.old_cells-in-Watch.ensures)
    (OnWatch c.in_ok-retake-in-Watch.field-0 c.in_ok-retake-in-Watch.ensures.acted)

pub returns-in_ok-make_cell-in-New-clause-acted : goal.returns-in_ok-make_cell-in-New-clause-acted
returns-in_ok-make_cell-in-New-clause-acted c = OnNew c.in_ok-make_cell-in-New.field-0 c.in_ok-make_cell-in-New.ensures
