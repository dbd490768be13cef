-- Operations that wait, and a watch that takes its object's mutex again.
use Rattle.std.specs.Prelude.{Bool, List, Option, Some, false, not, ℕ, ◌||◌, ◌≡◌, ◌&&◌, ◌∷◌}
use Rattle.obq_base.specs.declared.acts.Act.{Act}
use Rattle.obq_base.specs.declared.code.SourceCode.{SourceCode}
use Rattle.obq_base.specs.declared.places.Ref.{Ref}
use Rattle.obq_except.specs.declared.operations.After.{After}
use Rattle.obq_except.specs.declared.operations.Operation.{Operation}
use Rattle.obq_except.specs.declared.operations.Operation.TheVariants as o
use Rattle.obq_except.specs.declared.windows.Focus.TheVariants as focus
use Rattle.obq_except.specs.declared.windows.Window.{Window}
use Rattle.obq_heap.specs.Heap.{Heap, cell_at, placed_at}
use Rattle.obq_heap.specs.Reading.{owner_number}
use Rattle.obq_heap.specs.declared.cells.Cell.{Cell}
use Rattle.obq_heap.specs.declared.cells.Placed.{Placed}
use Rattle.obq_host.specs.Acting.{CameTo}
use Rattle.obq_host.specs.declared.acting.Tried.{Tried}
use Rattle.obq_model.specs.Cells.{is_clear}
use Rattle.obq_model.specs.Effect.{in_line}
use Rattle.obq_model.specs.Step.{Self, is_call_limit}
use Rattle.obq_moves.specs.Store.{same_ref}
use Rattle.obq_moves.specs.Views.{Shown}
use Rattle.obq_answers.specs.Answers.{place_of}
use Rattle.obq_site.specs.Cells.{PlainHeap, plain_cell}
use Rattle.obq_site.specs.Outcomes.{acted, at_cell}
use Rattle.obq_windows.specs.Rows.{PlainCell, PlainCondition, again_plain, is_plain_free}
use Rattle.obq_windows.specs.Trees.{PlainAgain, PlainGet, PlainInvoke, PlainOperation, PlainRedirect, PlainSetAlias, PlainSetMethod, PlainSetValue, PlainCloning}
use Rattle.obq_windows.specs.Windows.{NodeAct, NodeAfter, NodeFocus}

-- ---- operations that wait

-- an object that isn't clear for this current self is there
abbrev pub is_held : Self Ref → Ref → Option Cell → Bool
is_held s object (Some (Cell.Object flags owner fields)) = not (is_clear same_ref s object flags (owner_number owner))
is_held s object cell = false

-- thread t stands in the line of the condition
abbrev pub is_lined : ℕ → PlainCell Ref → Bool
is_lined t (PlainCondition line) = in_line t line
is_lined t cell = false

-- the object and the condition are there, and the thread can't take the mutex again
abbrev pub is_kept_out : ℕ → (object condition : Option Cell) → Bool
is_kept_out t (Some object) (Some condition) = is_lined t (plain_cell condition) || not (is_plain_free (Some (plain_cell object)))
is_kept_out t object condition = false

-- with this current self inside so many activations
abbrev pub waits_now : (t : ℕ) → Self Ref → (activations : ℕ) → PlainOperation Ref → Heap → Bool
waits_now t s a (PlainGet object x) h = is_held s object (cell_at h object)
waits_now t s a (PlainInvoke object x vs) h = not (is_call_limit a) && is_held s object (cell_at h object)
waits_now t s a (PlainSetValue object x v) h = is_held s object (cell_at h object)
waits_now t s a (PlainSetMethod object x m) h = is_held s object (cell_at h object)
waits_now t s a (PlainSetAlias object x q y) h = is_held s object (cell_at h object)
waits_now t s a (PlainRedirect object target) h = is_held s object (cell_at h object)
waits_now t s a (PlainCloning first copied (object ∷ rest)) h = is_held s object (cell_at h object)
waits_now t s a (PlainAgain object condition) h = is_kept_out t (cell_at h object) (cell_at h condition)
waits_now t s a op h = false

abbrev pub waits_at : (t : ℕ) → Self Ref → (activations : ℕ) → NodeFocus Ref → Heap → Bool
waits_at t s a (NodeAct op after) h = waits_now t s a op h
waits_at t s a x h = false

-- the window of thread t is at the form of such an operation
abbrev pub waits_in : ℕ → Shown → Heap → Bool
waits_in t w h = waits_at t w.current w.activations w.focus h

-- ---- a watch that takes its mutex again

-- the window of thread t is at the form of such a watch, whose object and condition are there, and this comes of it
pub record ActsAgain (parts : List SourceCode) (t : ℕ) (cells : Heap) (old : Shown) (made : Option Act) (left : PlainHeap) (new : Shown) : Type 0 where
  pub object : Ref
  pub condition : Ref
  pub after : NodeAfter
  pub placed : Placed
  pub line : Placed
  pub form : old.focus ≡ NodeAct (PlainAgain object condition) after
  pub there : placed_at cells object ≡ Some placed
  pub lines : placed_at cells condition ≡ Some line
  pub came : CameTo parts (PlainAgain object condition) after cells object placed.born old (again_plain t (is_lined t (plain_cell line.cell)) (Some (plain_cell placed.cell))) made left new

-- before the window has its answer, of this operation
pub record TriedAgain (t : ℕ) (op : Operation) (after : After) (old : Heap) (tried : Tried) (new : Heap) : Type 0 where
  pub object : Ref
  pub condition : Ref
  pub placed : Placed
  pub line : Placed
  pub operation : op ≡ o.Again object condition
  pub there : placed_at old object ≡ Some placed
  pub lines : placed_at old condition ≡ Some line
  pub loc : tried.loc ≡ placed.born
  pub place : place_of op after ≡ tried.place
  pub acted : acted tried.outcome new ≡ at_cell old object (again_plain t (is_lined t (plain_cell line.cell)))

-- of the window's operation
pub record TriedWatch (t : ℕ) (old : Heap) (w : Window) (tried : Tried) (new : Heap) : Type 0 where
  pub op : Operation
  pub after : After
  pub form : w.focus ≡ focus.Act op after
  pub one : TriedAgain t op after old tried new
