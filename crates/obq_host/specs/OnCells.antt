-- The act at whose form a window is, among all acts on cells.
use Rattle.std.specs.Prelude.{List, None, Option, Some, [], length, suc, ℕ, ◌≡◌}
use Rattle.obq_base.specs.declared.acts.Act.{Act}
use Rattle.obq_base.specs.declared.code.SourceCode.{SourceCode}
use Rattle.obq_base.specs.declared.places.Ref.{Ref}
use Rattle.obq_heap.specs.Heap.{Heap}
use Rattle.obq_host.specs.Acting.{ActsAtOne}
use Rattle.obq_host.specs.Doing.{IsDone, IsStill}
use Rattle.obq_host.specs.NewCells.{MakesCell}
use Rattle.obq_host.specs.Seen.{HeapIs}
use Rattle.obq_host.specs.Watching.{ActsAgain}
use Rattle.obq_host.specs.declared.on_cells.CellAct.{CellAct}
use Rattle.obq_host.specs.declared.on_cells.CellAct.TheVariants as c
use Rattle.obq_host.specs.declared.on_cells.Family.{Family}
use Rattle.obq_host.specs.declared.on_cells.Family.TheVariants as f
use Rattle.obq_model.specs.Step.{Frame, Needs, Operation, Self, find, self_at}
use Rattle.obq_model.specs.Terms.{Term}
use Rattle.obq_moves.specs.Store.{store}
use Rattle.obq_moves.specs.Views.{Shown}
use Rattle.obq_answers.specs.Worlds.{SeenAs}
use Rattle.obq_site.specs.Cells.{PlainHeap, plain_heap}
use Rattle.obq_stands.specs.World.{same_ref}
use Rattle.obq_stands.specs.World as world
use Rattle.obq_windows.specs.Agrees.{Agrees}
use Rattle.obq_windows.specs.Trees.{PlainAgain, PlainCloning, PlainNewArray, PlainNewCondition, PlainNewEngine, PlainNewVariable, PlainOperation}
use Rattle.obq_windows.specs.Values.{Table}
use Rattle.obq_windows.specs.Windows.{NodeAct, NodeFocus}

abbrev pub family_of : PlainOperation Ref → Family
family_of (PlainAgain object condition) = f.Watch
family_of PlainNewCondition = f.New
family_of (PlainNewVariable v) = f.New
family_of (PlainNewArray vs) = f.New
family_of (PlainNewEngine x namer v) = f.New
family_of (PlainCloning flags fields []) = f.New
family_of op = f.One

abbrev pub family_in : NodeFocus Ref → Family
family_in (NodeAct op after) = family_of op
family_in x = f.One

-- an act that makes no cell
abbrev pub old_cells : Option Act → CellAct
old_cells None = c.Waits
old_cells (Some act) = c.Did act

-- the window of thread t is at the form of an act on these cells, and this comes of it; a new cell has this number of its allocation
pub data ActsOnCells (parts : List SourceCode) (t : ℕ) (cells : Heap) (born : ℕ) (old : Shown) (left : PlainHeap) (new : Shown) : CellAct → Type 0 where
  OnOne : (made : Option Act) → ActsAtOne parts t cells old made left new → ActsOnCells parts t cells born old left new (old_cells made)
  OnWatch : (made : Option Act) → ActsAgain parts t cells old made left new → ActsOnCells parts t cells born old left new (old_cells made)
  OnNew : (done : Act) → MakesCell parts cells born old done left new → ActsOnCells parts t cells born old left new (c.Made done)

-- ---- the laws

abbrev pub CellActMeans : List SourceCode → Table Ref → (t a : ℕ) → Self world.Ref → world.Heap → Operation world.Ref → List (Frame world.Ref) → (count : ℕ) → PlainHeap → Shown → PlainHeap → Shown → CellAct → Type 0
CellActMeans parts T t a self h o around count cells old left new c.Waits = IsStill t (self_at self around) h o cells left old new
CellActMeans parts T t a self h o around count cells old left new (c.Did act) = IsDone parts T t a self h o around count count act left new
CellActMeans parts T t a self h o around count cells old left new (c.Made act) = IsDone parts T t a self h o around count (suc count) act left new

-- it is that of a World whose only site has these cells, where so many cells were made before it
abbrev pub CellsMean : Type 0
CellsMean =
    (parts : List SourceCode) (T : Table Ref) → Agrees T (store parts)
    → (t : ℕ) (cells : Heap) (count : ℕ) (old : Shown) (left : PlainHeap) (new : Shown) (done : CellAct) → ActsOnCells parts t cells count old left new done
    → (h : world.Heap) → HeapIs T (plain_heap cells) h → (a : ℕ) (self : Self world.Ref) (u : Term world.Ref) → SeenAs parts T a self old u
    → (o : Operation world.Ref) (around : List (Frame world.Ref)) → find same_ref a self u ≡ Needs o around
    → CellActMeans parts T t a self h o around count (plain_heap cells) old left new done

abbrev pub size_behind : CellAct → ℕ → ℕ
size_behind (c.Made act) n = suc n
size_behind act n = n

-- it makes one cell, or none
abbrev pub CellsSize : Type 0
CellsSize =
    (parts : List SourceCode) (t : ℕ) (cells : Heap) (born : ℕ) (old : Shown) (left : Heap) (new : Shown) (done : CellAct) → ActsOnCells parts t cells born old (plain_heap left) new done
    → length left.cells ≡ size_behind done (length cells.cells)
