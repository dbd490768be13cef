-- What acts of a window at the cells of its site are for a World whose only site has these cells.
use Rattle.obq_host.specs.NewCells.{MakesCell, NamesDifferIn}
use Rattle.std.specs.Prelude.{List, None, Option, Some, true, ℕ, ◌≡◌, suc}
use Rattle.obq_base.specs.declared.acts.Act.{Act}
use Rattle.obq_base.specs.declared.code.SourceCode.{SourceCode}
use Rattle.obq_base.specs.declared.places.Ref.{Ref}
use Rattle.obq_heap.specs.Heap.{Heap}
use Rattle.obq_host.specs.Acting.{ActsAtOne}
use Rattle.obq_host.specs.Seen.{HeapIs}
use Rattle.obq_host.specs.Watching.{ActsAgain, waits_in}
use Rattle.obq_model.specs.Cells.{again_row, cell_row}
use Rattle.obq_model.specs.Effect.{in_line, line_of}
use Rattle.obq_model.specs.OneCell.{cell_of}
use Rattle.obq_model.specs.Step.{Again, Frame, Needs, Next, Operation, Self, find, plug, self_at}
use Rattle.obq_model.specs.Terms.{Term}
use Rattle.obq_moves.specs.Store.{store}
use Rattle.obq_moves.specs.Views.{Shown}
use Rattle.obq_answers.specs.Worlds.{SeenAs}
use Rattle.obq_site.specs.Cells.{PlainHeap, plain_heap}
use Rattle.obq_stands.specs.Sites.{Did}
use Rattle.obq_stands.specs.World.{Born, Ends, Idle, same_ref}
use Rattle.obq_stands.specs.World as world
use Rattle.obq_windows.specs.Agrees.{Agrees}
use Rattle.obq_windows.specs.Trees.{PlainOperation}
use Rattle.obq_windows.specs.Values.{Table}
use Rattle.obq_windows.specs.Windows.{NodeAct, NodeAfter}

-- thread t does this act of this operation, for which so many cells were made before and behind it; the cells and the window behind it read back so
pub record IsDone (parts : List SourceCode) (T : Table Ref) (t a : ℕ) (self : Self world.Ref) (h : world.Heap) (o : Operation world.Ref) (around : List (Frame world.Ref)) (before after : ℕ) (act : Act) (left : PlainHeap) (new : Shown) : Type 0 where
  pub behind : world.Heap
  pub x : Term world.Ref
  pub did : Did 0 h before t (self_at self around) o act.kind act.loc behind after x
  pub heap : HeapIs T left behind
  pub reads : SeenAs parts T a self new (plug around x)

-- thread t's operation with the current self z waits
pub data IsIdle (h : world.Heap) (t : ℕ) (z : Self world.Ref) : Operation world.Ref → Type 0 where
  IdleAtOne : (op : Operation world.Ref) (r : world.Ref) (x : Born) → r.site ≡ 0 → cell_of op ≡ Some r → h r ≡ Some x → cell_row same_ref Ends Idle t z op (Some x.cell) ≡ Idle → IsIdle h t z op
  IdleAgain : (o c : world.Ref) (guard : Term world.Ref) (x y : Born) → o.site ≡ 0 → c.site ≡ 0 → h o ≡ Some x → h c ≡ Some y → again_row Ends Idle t (in_line t (line_of (Some y.cell))) o c guard (Some x.cell) ≡ Idle → IsIdle h t z (Again o c guard)

-- where no act was made it waits, and nothing has changed
pub record IsStill (t : ℕ) (z : Self world.Ref) (h : world.Heap) (o : Operation world.Ref) (cells left : PlainHeap) (old new : Shown) : Type 0 where
  pub idle : IsIdle h t z o
  pub same : left ≡ cells
  pub window : new ≡ old

abbrev pub Means : List SourceCode → Table Ref → (t a : ℕ) → Self world.Ref → world.Heap → Operation world.Ref → List (Frame world.Ref) → (before after : ℕ) → PlainHeap → Shown → Option Act → PlainHeap → Shown → Type 0
Means parts T t a self h o around before after cells old None left new = IsStill t (self_at self around) h o cells left old new
Means parts T t a self h o around before after cells old (Some act) left new = IsDone parts T t a self h o around before after act left new

-- ---- the laws

-- an operation on one cell
abbrev pub OneMeans : Type 0
OneMeans =
    (parts : List SourceCode) (T : Table Ref) → Agrees T (store parts)
    → (t : ℕ) (cells : Heap) (old : Shown) (made : Option Act) (left : PlainHeap) (new : Shown) → ActsAtOne parts t cells old made left new
    → (h : world.Heap) → HeapIs T (plain_heap cells) h → (a : ℕ) (self : Self world.Ref) (u : Term world.Ref) → SeenAs parts T a self old u
    → (o : Operation world.Ref) (around : List (Frame world.Ref)) → find same_ref a self u ≡ Needs o around → (count : ℕ)
    → Means parts T t a self h o around count count (plain_heap cells) old made left new

-- a watch that takes its object's mutex again
abbrev pub AgainMeans : Type 0
AgainMeans =
    (parts : List SourceCode) (T : Table Ref) → Agrees T (store parts)
    → (t : ℕ) (cells : Heap) (old : Shown) (made : Option Act) (left : PlainHeap) (new : Shown) → ActsAgain parts t cells old made left new
    → (h : world.Heap) → HeapIs T (plain_heap cells) h → (a : ℕ) (self : Self world.Ref) (u : Term world.Ref) → SeenAs parts T a self old u
    → (o : Operation world.Ref) (around : List (Frame world.Ref)) → find same_ref a self u ≡ Needs o around → (count : ℕ)
    → Means parts T t a self h o around count count (plain_heap cells) old made left new

-- an act that waits
abbrev pub WaitsMean : Type 0
WaitsMean =
    (parts : List SourceCode) (T : Table Ref) → Agrees T (store parts)
    → (t : ℕ) (cells : Heap) (w : Shown) → waits_in t w cells ≡ true → (h : world.Heap) → HeapIs T (plain_heap cells) h → (a : ℕ) (self : Self world.Ref) (u : Term world.Ref) → SeenAs parts T a self w u
    → (o : Operation world.Ref) × (around : List (Frame world.Ref)) × (find same_ref a self u ≡ Needs o around) × IsIdle h t (self_at self around) o

-- where an act's form is in the focus, and no pure step stands next, an act does
abbrev pub FormDue : Type 0
FormDue =
    (parts : List SourceCode) (T : Table Ref) → Agrees T (store parts)
    → (w : Shown) (a : ℕ) (self : Self world.Ref) (u : Term world.Ref) → SeenAs parts T a self w u → (op : PlainOperation Ref) (after : NodeAfter) → w.focus ≡ NodeAct op after → ((x : Term world.Ref) → find same_ref a self u ≡ Next x → ⊥)
    → (o : Operation world.Ref) × (around : List (Frame world.Ref)) × (find same_ref a self u ≡ Needs o around)

-- a new cell
abbrev pub NewMeans : Type 0
NewMeans =
    (parts : List SourceCode) (T : Table Ref) → Agrees T (store parts)
    → (cells : Heap) (born : ℕ) (old : Shown) (done : Act) (left : PlainHeap) (new : Shown) → MakesCell parts cells born old done left new
    → (h : world.Heap) → HeapIs T (plain_heap cells) h → (a : ℕ) (self : Self world.Ref) (u : Term world.Ref) → SeenAs parts T a self old u
    → (o : Operation world.Ref) (around : List (Frame world.Ref)) → find same_ref a self u ≡ Needs o around → (t : ℕ)
    → IsDone parts T t a self h o around born (suc born) done left new

-- where no pure step stands next, an object that is to be made has no name twice
abbrev pub NamesDue : Type 0
NamesDue =
    (parts : List SourceCode) (T : Table Ref) → Agrees T (store parts)
    → (w : Shown) (a : ℕ) (self : Self world.Ref) (u : Term world.Ref) → SeenAs parts T a self w u → ((x : Term world.Ref) → find same_ref a self u ≡ Next x → ⊥) → NamesDifferIn w.focus
