use Rattle.obq_host.proofs.Finished.{acts_at_one}
use Rattle.obq_moves.specs.Views.{shown}
use Rattle.obq_host.proofs.acting.act_at_one.Goals as goal

pub returns-clause-acted : goal.returns-clause-acted
returns-clause-acted c = acts_at_one c.args.codes.now c.args.thread.0 c.args.heap.now c.args.w.now c.in_ok-tried.tried c.try_at.new.heap c.in_ok-made.made (shown c.finish.new.w) c.in_ok-tried.ensures c.in_ok-made.ensures.acted
