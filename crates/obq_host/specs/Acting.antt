-- Acts of a window at the cells of its site: the act that was made, if it didn't wait, the cells and the window behind it.
use Rattle.std.specs.Prelude.{List, None, Option, Some, ℕ, ◌≡◌}
use Rattle.obq_base.specs.declared.acts.Act.{Act}
use Rattle.obq_base.specs.declared.code.SourceCode.{SourceCode}
use Rattle.obq_base.specs.declared.places.Ref.{Ref}
use Rattle.obq_except.specs.declared.operations.After.{After}
use Rattle.obq_except.specs.declared.operations.Operation.{Operation}
use Rattle.obq_except.specs.declared.windows.Focus.TheVariants as focus
use Rattle.obq_except.specs.declared.windows.Window.{Window}
use Rattle.obq_heap.specs.Heap.{Heap, placed_at}
use Rattle.obq_heap.specs.declared.cells.Placed.{Placed}
use Rattle.obq_host.specs.declared.acting.Tried.{Tried}
use Rattle.obq_model.specs.Config.{act}
use Rattle.obq_model.specs.Step.{Self}
use Rattle.obq_moves.specs.Store.{same_ref, store}
use Rattle.obq_moves.specs.Views.{Shown, plain_operation, self_of}
use Rattle.obq_answers.specs.Answers.{place_of}
use Rattle.obq_answers.specs.Forms.{answered_at}
use Rattle.obq_site.specs.Acts.{cell_of, done}
use Rattle.obq_site.specs.Cells.{PlainHeap, left_in, plain_cell, plain_heap}
use Rattle.obq_site.specs.Outcomes.{How, HowEnds, HowWaits, acted}
use Rattle.obq_windows.specs.Rows.{PlainEnds, PlainOutcome, PlainWaits, plain_row}
use Rattle.obq_windows.specs.Trees.{PlainOperation}
use Rattle.obq_windows.specs.Windows.{NodeAct, NodeAfter, node_params}

-- ---- a window behind an outcome

-- at this operation's form, with the number of the cell's allocation
abbrev pub FinishedAs : List SourceCode → PlainOperation Ref → NodeAfter → How → (loc : ℕ) → Shown → Option Act → Shown → Type 0
FinishedAs parts op after HowWaits loc old made new = (made ≡ None) × (new ≡ old)
FinishedAs parts op after (HowEnds kind answer) loc old made new = (made ≡ Some (act kind loc)) × (new ≡ answered_at parts op after answer old)

-- ---- an operation on one cell

-- what is left of these cells and this window, by the outcome at the cell
abbrev pub CameTo : List SourceCode → PlainOperation Ref → NodeAfter → Heap → Ref → (born : ℕ) → Shown → PlainOutcome Ref → Option Act → PlainHeap → Shown → Type 0
CameTo parts op after cells r born old PlainWaits made left new = (made ≡ None) × (left ≡ plain_heap cells) × (new ≡ old)
CameTo parts op after cells r born old (PlainEnds kind cell answer) made left new = (made ≡ Some (act kind born)) × (left ≡ left_in cells r cell) × (new ≡ answered_at parts op after answer old)

-- the window of thread t is at the form of an operation whose cell is there, and this comes of it
pub record ActsAtOne (parts : List SourceCode) (t : ℕ) (cells : Heap) (old : Shown) (made : Option Act) (left : PlainHeap) (new : Shown) : Type 0 where
  pub op : PlainOperation Ref
  pub after : NodeAfter
  pub r : Ref
  pub placed : Placed
  pub form : old.focus ≡ NodeAct op after
  pub names : cell_of op ≡ Some r
  pub there : placed_at cells r ≡ Some placed
  pub came : CameTo parts op after cells r placed.born old (plain_row (node_params (store parts)) same_ref t old.current op (Some (plain_cell placed.cell))) made left new

-- ---- an act that was tried, before the window has its answer

-- of this operation
pub record TriedOne (parts : List SourceCode) (t : ℕ) (self : Self Ref) (op : Operation) (after : After) (old : Heap) (tried : Tried) (new : Heap) : Type 0 where
  pub r : Ref
  pub placed : Placed
  pub names : cell_of (plain_operation op) ≡ Some r
  pub there : placed_at old r ≡ Some placed
  pub loc : tried.loc ≡ placed.born
  pub place : place_of op after ≡ tried.place
  pub acted : acted tried.outcome new ≡ done (node_params (store parts)) t self (plain_operation op) old

-- of the window's operation
pub record TriedAt (parts : List SourceCode) (t : ℕ) (old : Heap) (w : Window) (tried : Tried) (new : Heap) : Type 0 where
  pub op : Operation
  pub after : After
  pub form : w.focus ≡ focus.Act op after
  pub one : TriedOne parts t (self_of w.current) op after old tried new
