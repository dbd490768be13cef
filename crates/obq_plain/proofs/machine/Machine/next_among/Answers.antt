use Rattle.std.proofs.Common.{false, ◌≡◌}
use Rattle.obq_model.specs.Replay.{is_able}
use Rattle.obq_plain.proofs.Scheduled.{at_none, one_more}
use Rattle.obq_plain.specs.Scheduling.{IsNext}
use Rattle.obq_plain.specs.Threads.{machine_of}
use Rattle.obq_plain.proofs.machine.Machine.next_among.Goals as goal

pub loop-thread-preserved : goal.loop-thread-preserved
loop-thread-preserved c =
    one_more (λ t. is_able c.args.turns (machine_of c.args.self.now) t ≡ false) c.args.from c.loop-thread.thread c.loop-thread.invariant
    (at_none c.in_ok-next.next _ (λ e. IsNext c.args.turns (machine_of c.args.self.now) e) c.in-None.is c.in_ok-next.ensures)
