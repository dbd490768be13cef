-- What a site does for a thread whose act is one on cells, and all of its acts.
use Rattle.std.specs.Prelude.{Bool, List, None, Option, Some, false, option_map, ℕ, ◌||◌, ◌≡◌}
use Rattle.obq_base.specs.declared.code.SourceCode.{SourceCode}
use Rattle.obq_except.specs.declared.windows.Window.{Window}
use Rattle.obq_host.specs.Endings.{kept_at}
use Rattle.obq_host.specs.Exports.{seeks_at, value_at}
use Rattle.obq_host.specs.OnCells.{ActsOnCells}
use Rattle.obq_host.specs.Places.{IsWith, at_place}
use Rattle.obq_host.specs.Threads.{DueElse, due_at}
use Rattle.obq_host.specs.Turns.{ActsOnThreads, OfWindow, awaits_at}
use Rattle.obq_heap.specs.Heap.{Heap}
use Rattle.obq_host.specs.Watching.{waits_in}
use Rattle.obq_host.specs.declared.host.Host.{Host}
use Rattle.obq_host.specs.declared.on_cells.CellAct.{CellAct}
use Rattle.obq_host.specs.declared.on_cells.CellAct.TheVariants as c
use Rattle.obq_moves.specs.Views.{shown}
use Rattle.obq_site.specs.Cells.{plain_heap}
use Rattle.obq_world.specs.declared.machine.Made.{Made}
use Rattle.obq_world.specs.declared.machine.Tried.{Tried}
use Rattle.obq_world.specs.declared.machine.Tried.TheVariants as tried

abbrev pub tried_of : CellAct → Tried
tried_of c.Waits = tried.Waits
tried_of (c.Did a) = tried.Did a Made.Nothing
tried_of (c.Made a) = tried.Did a Made.Cell

-- thread t's act on the cells, for which so many were made before it
pub record ActsOnOwnCells (parts : List SourceCode) (old : Host) (t born : ℕ) (act : CellAct) (new : Host) : Type 0 where
  pub window : Window
  pub acts : OfWindow old t (λ s. ActsOnCells parts t old.heap born s (plain_heap new.heap) (shown window) act)
  pub still : act ≡ c.Waits → at_place old.windows.items t ≡ Some window
  pub windows : IsWith old.windows.items t (Some window) new.windows.items
  pub endings : new.endings ≡ old.endings
  pub names : new.names ≡ old.names

-- what comes of the act that is due in the window of thread t, where so many cells and threads were made before it
pub data Acts (parts : List SourceCode) (old : Host) (t born threads : ℕ) (new : Host) : Tried → Type 0 where
  OnThreads : (came : Tried) → ActsOnThreads old t threads new came → Acts parts old t born threads new came
  OnCells : (act : CellAct) → OfWindow old t (λ s. due_at s.focus ≡ DueElse) → ActsOnOwnCells parts old t born act new → Acts parts old t born threads new (tried_of act)

-- ---- what is known to wait

-- an act on cells
abbrev pub waits_of : ℕ → Heap → Option Window → Bool
waits_of t cells None = false
waits_of t cells (Some w) = waits_in t (shown w) cells

abbrev pub waits_at_cells : Host → ℕ → Bool
waits_at_cells s t = waits_of t s.heap (at_place s.windows.items t)

-- thread t waits for the end of a thread, for a name, or at cells
abbrev pub is_known_to_wait : Host → ℕ → Bool
is_known_to_wait s t = awaits_at (kept_at s.endings.items) (option_map shown (at_place s.windows.items t)) || seeks_at (value_at s.names) (option_map shown (at_place s.windows.items t)) || waits_at_cells s t
