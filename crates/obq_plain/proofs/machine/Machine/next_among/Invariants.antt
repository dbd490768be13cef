use Rattle.std.proofs.Common.{false, ℕ, ◌<◌, ◌≡◌, ◌≤◌}
use Rattle.obq_model.specs.Replay.{is_able}
use Rattle.obq_plain.specs.Threads.{machine_of}
use Rattle.obq_plain.proofs.machine.Machine.next_among.Given as goal

abbrev pub invariant-loop-thread : goal.invariant-loop-thread
invariant-loop-thread l = (t : ℕ) → l.from ≤ t → t < l.thread → is_able l.turns (machine_of l.self) t ≡ false
