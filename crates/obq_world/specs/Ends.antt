-- A run at one site that is over.
use Rattle.std.specs.Prelude.{List, Some, [], length, ℕ, ◌≡◌, ◌∷◌}
use Rattle.obq_base.specs.Tree.{BlockTree}
use Rattle.obq_model.specs.Config.{Config}
use Rattle.obq_model.specs.Replay.{IsOver, TakeTurns, output, replay, report}
use Rattle.obq_world.specs.declared.running.Ended.{Ended}

-- The journal is a legal history of the program under this limit of turns, in which each entry takes a turn. In the configuration that it leads to
-- no thread can go on, the one site wrote this text, and the threads stand as the report says.
pub record IsEndOf (blocks : List BlockTree) (turns : ℕ) (ended : Ended) : Type 0 where
  pub last : Config
  pub replays : replay blocks turns ended.journal.entries ≡ Some last
  pub over : IsOver turns last
  pub written : output (length blocks) last ≡ ended.text.items ∷ []
  pub reported : report turns last ≡ ended.report
  pub turn_limit : ended.journal.turns ≡ turns
  pub each : TakeTurns ended.journal.entries
