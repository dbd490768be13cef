-- The located replay is the replay, with sites beside it.
use Rattle.std.specs.Prelude.{List, option_map, ℕ, ◌≡◌}
use Rattle.obq_base.specs.declared.acts.Entry.{Entry}
use Rattle.obq_base.specs.Tree.{BlockTree}
use Rattle.obq_model.specs.Replay.{replay}
use Rattle.obq_model.specs.Located.{Located, located_replay}

-- its configuration is the one that the journal replays to, and it is there exactly where that is
abbrev pub LocatedReplay : Type 0
LocatedReplay = (trees : List BlockTree) (turns : ℕ) (entries : List Entry) → option_map (λ (l : Located). l.config) (located_replay trees turns entries) ≡ replay trees turns entries
