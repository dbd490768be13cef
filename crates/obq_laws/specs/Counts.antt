-- How many turns, threads and cells there are.
use Rattle.std.specs.Prelude.{List, Some, [], length, max, ℕ, ◌+◌, ◌∷◌, ◌≡◌, ◌≤◌}
use Rattle.obq_base.specs.declared.acts.Entry.{Entry}
use Rattle.obq_base.specs.declared.limits.TheConstants.{THREAD_LIMIT}
use Rattle.obq_base.specs.Tree.{BlockTree}
use Rattle.obq_model.specs.Config.{ThreadState, Config}
use Rattle.obq_model.specs.Replay.{replay}

-- the turns that all threads have used
abbrev pub total_used : List ThreadState → ℕ
total_used [] = 0
total_used (s ∷ ss) = s.used + total_used ss

-- no thread has used more turns than the limit
abbrev pub UsedAtMost : ℕ → List ThreadState → Type 0
UsedAtMost turns [] = Unit {0}
UsedAtMost turns (s ∷ ss) = (s.used ≤ turns) × UsedAtMost turns ss

-- cells are at most as many as the sites and the turns that all threads have used, threads at most 64 or as many as the sites,
-- and no thread has used more turns than the limit
abbrev pub AreFew : (sites : ℕ) → (turns : ℕ) → Config → Type 0
AreFew sites turns k = (length k.store.cells ≤ sites + total_used k.threads) × (length k.threads ≤ max THREAD_LIMIT sites) × UsedAtMost turns k.threads

-- so in every configuration that a journal of a program replays to
abbrev pub CountsLaw : Type 0
CountsLaw = (trees : List BlockTree) (turns : ℕ) (es : List Entry) (k : Config) → replay trees turns es ≡ Some k → AreFew (length trees) turns k
