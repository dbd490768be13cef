use Rattle.std.proofs.Common.{replicate, ◌≡◌}
use Rattle.obq_links.proofs.tallies.Tally.new.Given as goal

abbrev pub invariant-loop : goal.invariant-loop
invariant-loop l = l.rows.items ≡ replicate l.counter (replicate l.sites 0)
