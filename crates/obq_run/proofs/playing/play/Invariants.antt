use Rattle.std.proofs.Common.{Some, length, map, ◌≡◌}
use Rattle.obq_base.specs.View.{block_tree}
use Rattle.obq_model.specs.Replay.{TakeTurns, replay}
use Rattle.obq_run.proofs.playing.play.Given as goal

abbrev pub invariant-loop : goal.invariant-loop
invariant-loop l = record {
  sites : l.machine.sites ≡ length l.blocks;
  limit : l.machine.turns ≡ l.turns;
  kept : l.journal.turns ≡ l.turns;
  leads : replay (map block_tree l.blocks) l.turns l.journal.entries ≡ Some l.machine.config;
  each : TakeTurns l.journal.entries;
}
