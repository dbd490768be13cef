-- Acts of a window that make a cell.
use Rattle.std.specs.Prelude.{List, Some, false, is_some, true, ℕ, ◌≡◌, []}
use Rattle.obq_base.specs.declared.acts.Act.{Act}
use Rattle.obq_base.specs.declared.acts.ActKind.{ActKind}
use Rattle.obq_base.specs.declared.code.SourceCode.{SourceCode}
use Rattle.obq_base.specs.declared.places.Ref.{Ref}
use Rattle.obq_except.specs.declared.operations.After.{After}
use Rattle.obq_except.specs.declared.operations.Operation.{Operation}
use Rattle.obq_except.specs.declared.windows.Focus.TheVariants as focus
use Rattle.obq_except.specs.declared.windows.Window.{Window}
use Rattle.obq_heap.specs.Heap.{Heap}
use Rattle.obq_host.specs.declared.acting.Tried.{Tried}
use Rattle.obq_model.specs.Config.{act}
use Rattle.obq_model.specs.Store.{twice}
use Rattle.obq_moves.specs.Views.{Shown, plain_operation}
use Rattle.obq_answers.specs.Answers.{place_of}
use Rattle.obq_answers.specs.Forms.{answered_at}
use Rattle.obq_site.specs.Cells.{PlainHeap, one_more}
use Rattle.obq_site.specs.Making.{made, next_ref}
use Rattle.obq_site.specs.Outcomes.{acted}
use Rattle.obq_windows.specs.Rows.{PlainCell, new_answer, new_cell}
use Rattle.obq_windows.specs.Trees.{PlainCloning, PlainOperation, plain_names}
use Rattle.obq_windows.specs.Windows.{NodeAct, NodeAfter, NodeFocus}

-- no two fields of an object that is to be made have the same name
abbrev pub NamesDiffer : PlainOperation Ref → Type 0
NamesDiffer (PlainCloning (Some flags) fields []) = twice (plain_names fields) ≡ false
NamesDiffer op = Unit {0}

abbrev pub NamesDifferIn : NodeFocus Ref → Type 0
NamesDifferIn (NodeAct op after) = NamesDiffer op
NamesDifferIn x = Unit {0}

-- the window is at the form of an operation that makes a cell, the next one of these cells, with this number of its allocation
pub record MakesCell (parts : List SourceCode) (cells : Heap) (born : ℕ) (old : Shown) (done : Act) (left : PlainHeap) (new : Shown) : Type 0 where
  pub op : PlainOperation Ref
  pub after : NodeAfter
  pub cell : PlainCell Ref
  pub form : old.focus ≡ NodeAct op after
  pub makes : new_cell op ≡ Some cell
  pub act_is : done ≡ act ActKind.New born
  pub left_is : left ≡ one_more cells cell born
  pub window : new ≡ answered_at parts op after (new_answer op (next_ref cells cell)) old

-- before the window has its answer, of this operation
pub record TriedMake (op : Operation) (after : After) (born : ℕ) (old : Heap) (tried : Tried) (new : Heap) : Type 0 where
  pub makes : is_some (new_cell (plain_operation op)) ≡ true
  pub acted : acted tried.outcome new ≡ made old born (plain_operation op)
  pub loc : tried.loc ≡ born
  pub place : place_of op after ≡ tried.place

-- of the window's operation
pub record TriedNew (born : ℕ) (old : Heap) (w : Window) (tried : Tried) (new : Heap) : Type 0 where
  pub op : Operation
  pub after : After
  pub form : w.focus ≡ focus.Act op after
  pub one : TriedMake op after born old tried new
