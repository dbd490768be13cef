use Rattle.std.proofs.Common.{drop, length, map, ◌≡◌, ◌≤◌}
use Rattle.obq_plain.specs.Following.{all_asked}
use Rattle.obq_plain.specs.Threads.{machine_of, thread_of}
use Rattle.obq_plain.proofs.machine.Machine.ask_all.Given as goal

abbrev pub invariant-loop-at : goal.invariant-loop-at
invariant-loop-at l = record {
  same : l.sites ≡ all_asked l.turns (machine_of l.self) l.at (map thread_of (drop l.at l.self.threads.items)) l.fn.sites;
  low : l.at ≤ length l.self.threads.items;
}

abbrev pub decreases-loop-at : goal.decreases-loop-at
decreases-loop-at l = l.at
