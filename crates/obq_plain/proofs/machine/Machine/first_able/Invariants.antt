use Rattle.std.proofs.Common.{drop, ◌≡◌}
use Rattle.obq_model.specs.Replay.{first_able, first_able_of}
use Rattle.obq_plain.specs.Threads.{machine_of}
use Rattle.obq_plain.proofs.machine.Machine.first_able.Given as goal

abbrev pub invariant-loop-thread : goal.invariant-loop-thread
invariant-loop-thread l = first_able_of l.turns (machine_of l.self) l.thread (drop l.thread (machine_of l.self).threads) ≡ first_able l.turns (machine_of l.self)
