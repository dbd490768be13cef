use Rattle.std.proofs.Common.{drop, ◌≡◌}
use Rattle.obq_plain.specs.Following.{all_followed}
use Rattle.obq_plain.proofs.following.Following.take_all.Given as goal

abbrev pub invariant-loop-entry : goal.invariant-loop-entry
invariant-loop-entry l = all_followed l.self.run l.self.sites (drop l.entry-index l.entries) ≡ all_followed l.fn.self.run l.fn.self.sites l.entries
