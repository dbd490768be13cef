use Rattle.std.proofs.Common.{drop, ◌≡◌}
use Rattle.obq_model.specs.Refusals.{first_refused}
use Rattle.obq_model.specs.Replay.{replay_from}
use Rattle.obq_run.proofs.replaying.take_entries.Given as goal

-- what comes of the entries that are left comes of all
abbrev pub invariant-loop-i : goal.invariant-loop-i
invariant-loop-i l =
    let most = l.fn.machine.turns in
    let first = l.fn.machine.config in
    record {
      sites : l.machine.sites ≡ l.fn.machine.sites;
      limit : l.machine.turns ≡ most;
      leads : replay_from most first l.entries ≡ replay_from most l.machine.config (drop l.i l.entries);
      refused : first_refused most first 0 l.entries ≡ first_refused most l.machine.config l.i (drop l.i l.entries);
    }
