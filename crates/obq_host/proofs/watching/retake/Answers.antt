use Rattle.obq_host.proofs.Finished.{acts_again}
use Rattle.obq_moves.specs.Views.{shown}
use Rattle.obq_host.proofs.watching.retake.Goals as goal

pub returns-clause-acted : goal.returns-clause-acted
returns-clause-acted c = acts_again c.args.codes.now c.args.thread.0 c.args.heap.now c.args.w.now c.in_ok-tried.tried c.try_watch.new.heap c.in_ok-made.made (shown c.finish.new.w) c.in_ok-tried.ensures c.in_ok-made.ensures.acted
