-- A window at the form of an act, what the act leaves there, and what the window reads back as then. An operation is over plain values in the window, and over
-- terms in the term; `t` is a term in which it stands next.
use Rattle.std.specs.Prelude.{Bool, List, None, Option, Some, [], codes, option_map, ℕ, ◌≡◌}
use Rattle.obq_base.specs.declared.code.SourceCode.{SourceCode}
use Rattle.obq_base.specs.declared.places.Ref.{Ref}
use Rattle.obq_model.specs.Cells.{Ends, after_new, again_row, cell_row, import_row}
use Rattle.obq_model.specs.Exceptions.{fork_limit, raise}
use Rattle.obq_model.specs.Step.{After, Again, Export, ForkOff, Frame, Import, JoinWith, Needs, New, Operation, Self, activations_at, find, plug, self_at}
use Rattle.obq_model.specs.Terms.{Bytes, Call, Const, End, Form, Okay, Part, Term, Thread}
use Rattle.obq_moves.specs.Store.{same_ref, store}
use Rattle.obq_moves.specs.Views.{Shown}
use Rattle.obq_answers.specs.Answers.{answered_by}
use Rattle.obq_answers.specs.Beginnings.{Around, called_shown}
use Rattle.obq_answers.specs.Readings.{NeedsAct, ReadsAs, ReadsLike}
use Rattle.obq_windows.specs.Acts.{AnswerValue, CompleteAnswer, PlainAnswer, answer_node, left_by}
use Rattle.obq_windows.specs.Agrees.{Agrees}
use Rattle.obq_windows.specs.Complete.{CompleteOperation, IsComplete}
use Rattle.obq_windows.specs.Rows.{CompleteCell, CompleteLeft, PlainCell, PlainEnds, PlainOutcome, PlainWaits, again_plain, answer_raises, import_plain, new_answer, new_cell, plain_row, read_cell}
use Rattle.obq_windows.specs.Trees.{PlainAgain, PlainExport, PlainForkOff, PlainImport, PlainJoin, PlainOperation, read_operation}
use Rattle.obq_windows.specs.Values.{OkayValue, PlainValue, Table, ThreadValue, read_value}
use Rattle.obq_windows.specs.Windows.{NodeAct, NodeAfter, NodeFocus, node_params}

-- this form is in the focus of the window, and what it asks for stands next in the term, in these frames
pub record IsAtForm (parts : List SourceCode) (T : Table Ref) (a : ℕ) (self : Self Ref) (w : Shown) (t : Term Ref) (op : PlainOperation Ref) (after : NodeAfter) (o : Operation Ref) (around : List (Frame Ref)) : Type 0 where
  pub needs : NeedsAct parts T a self w t
  pub form : w.focus ≡ NodeAct op after
  pub next : find same_ref a self t ≡ Needs o around

-- the window behind an answer at this form, also where something else has taken the form's place in the focus before
abbrev pub answered_at : List SourceCode → PlainOperation Ref → NodeAfter → PlainAnswer Ref → Shown → Shown
answered_at parts op after answer w = answered_by answer (answer_node (store parts) op after answer w.act w.frames) w

abbrev pub with_focus : NodeFocus Ref → Shown → Shown
with_focus x w = record w { focus = x }

-- such a window reads back as this term, whatever stood in the focus
abbrev pub AnsweredReads : List SourceCode → Table Ref → ℕ → Self Ref → Shown → PlainOperation Ref → NodeAfter → PlainAnswer Ref → Term Ref → Type 0
AnsweredReads parts T a self w op after answer t = (x : NodeFocus Ref) → ReadsAs parts T a self (answered_at parts op after answer (with_focus x w)) t

-- ---- at any form

-- A window that reads back as a term like t is at the form that it has in its focus, where an act stands next in t.
abbrev pub FormReads : Type 0
FormReads =
    (parts : List SourceCode) (T : Table Ref) → Agrees T (store parts)
    → (a : ℕ) (self : Self Ref) (w : Shown) (t : Term Ref) → ReadsLike parts T a self w t → (op : PlainOperation Ref) (after : NodeAfter) → w.focus ≡ NodeAct op after → (o : Operation Ref) (around : List (Frame Ref)) → find same_ref a self t ≡ Needs o around
    → IsAtForm parts T a self w t op after o around

-- what is said of a window at a form: its operation is that of the term, its operands are complete, and it keeps the activations and the current self that are around the form
pub record FormSays (T : Table Ref) (a : ℕ) (self : Self Ref) (w : Shown) (op : PlainOperation Ref) (o : Operation Ref) (around : List (Frame Ref)) : Type 0 where
  pub scope : Term Ref
  pub operation : o ≡ read_operation T op scope
  pub complete : CompleteOperation T op
  pub activations : w.activations ≡ activations_at a around
  pub current : w.current ≡ self_at self around

abbrev pub FormKeeps : Type 0
FormKeeps =
    (parts : List SourceCode) (T : Table Ref) → Agrees T (store parts)
    → (a : ℕ) (self : Self Ref) (w : Shown) (t : Term Ref) (op : PlainOperation Ref) (after : NodeAfter) (o : Operation Ref) (around : List (Frame Ref)) → IsAtForm parts T a self w t op after o around
    → FormSays T a self w op o around

-- Every answer: the window behind it reads back as the frames around the form with what the answer leaves in their hole.
abbrev pub AnswerReads : Type 0
AnswerReads =
    (parts : List SourceCode) (T : Table Ref) → Agrees T (store parts)
    → (a : ℕ) (self : Self Ref) (w : Shown) (t : Term Ref) (op : PlainOperation Ref) (after : NodeAfter) (o : Operation Ref) (around : List (Frame Ref)) → IsAtForm parts T a self w t op after o around
    → (answer : PlainAnswer Ref) → CompleteAnswer T op answer → AnsweredReads parts T a self w op after answer (plug around (left_by T o answer))

-- ---- rows

-- What code over plain values comes to at the form is the row of the term's operation: the same wait; or the same end with the cell that it leaves, which is complete, and
-- with a term at the focus that the answered window has in the frames.
abbrev pub RowReads : {X : Type 0} → List SourceCode → Table Ref → ℕ → Self Ref → Shown → Ends Ref X → X → PlainOperation Ref → NodeAfter → Operation Ref → List (Frame Ref) → PlainOutcome Ref → X → Type 0
RowReads parts T a self w ends waits op after o around PlainWaits row = row ≡ waits
RowReads parts T a self w ends waits op after o around (PlainEnds kind left answer) row =
    (row ≡ ends kind (option_map (read_cell T) left) (left_by T o answer)) × CompleteLeft T left × AnsweredReads parts T a self w op after answer (plug around (left_by T o answer))

-- an operation on one cell, with the current self that the window keeps
abbrev pub CellReads : Type 0 → Type 0
CellReads X =
    (parts : List SourceCode) (T : Table Ref) → Agrees T (store parts)
    → (a : ℕ) (self : Self Ref) (w : Shown) (t : Term Ref) (op : PlainOperation Ref) (after : NodeAfter) (o : Operation Ref) (around : List (Frame Ref)) → IsAtForm parts T a self w t op after o around
    → (ends : Ends Ref X) (waits : X) (thread : ℕ) (cell : Option (PlainCell Ref)) → CompleteLeft T cell
    → RowReads parts T a self w ends waits op after o around (plain_row (node_params (store parts)) same_ref thread w.current op cell) (cell_row same_ref ends waits thread (self_at self around) o (option_map (read_cell T) cell))

-- a watch that takes its mutex again, given whether its thread stands in the condition's line
abbrev pub RetakeReads : Type 0 → Type 0
RetakeReads X =
    (parts : List SourceCode) (T : Table Ref) → Agrees T (store parts)
    → (a : ℕ) (self : Self Ref) (w : Shown) (t : Term Ref) (p c : Ref) (after : NodeAfter) (o : Operation Ref) (around : List (Frame Ref)) → IsAtForm parts T a self w t (PlainAgain p c) after o around
    → (guard : Term Ref) × (o ≡ Again p c guard)
    × ((ends : Ends Ref X) (waits : X) (thread : ℕ) (lined : Bool) (cell : Option (PlainCell Ref)) → CompleteLeft T cell
    → RowReads parts T a self w ends waits (PlainAgain p c) after o around (again_plain thread lined cell) (again_row ends waits thread lined p c guard (option_map (read_cell T) cell)))

abbrev pub CompleteMaybe : Table Ref → Option (PlainValue Ref) → Type 0
CompleteMaybe T None = Unit {0}
CompleteMaybe T (Some v) = IsComplete T v

-- a name that is read
abbrev pub NameReads : Type 0 → Type 0
NameReads X =
    (parts : List SourceCode) (T : Table Ref) → Agrees T (store parts)
    → (a : ℕ) (self : Self Ref) (w : Shown) (t : Term Ref) (x namer : Bytes) (engine : Bool) (after : NodeAfter) (o : Operation Ref) (around : List (Frame Ref)) → IsAtForm parts T a self w t (PlainImport x namer engine) after o around
    → (o ≡ Import x engine)
    × ((ends : Ends Ref X) (waits : X) (v : Option (PlainValue Ref)) → CompleteMaybe T v → RowReads parts T a self w ends waits (PlainImport x namer engine) after o around (import_plain engine v) (import_row ends waits engine (option_map (read_value T) v)))

-- a new cell at r
pub record NewCellReads (parts : List SourceCode) (T : Table Ref) (a : ℕ) (self : Self Ref) (w : Shown) (op : PlainOperation Ref) (after : NodeAfter) (o : Operation Ref) (around : List (Frame Ref)) (cell : PlainCell Ref) (r : Ref) : Type 0 where
  pub place : After Ref
  pub operation : o ≡ New (read_cell T cell) place
  pub complete : CompleteCell T cell
  pub reads : AnsweredReads parts T a self w op after (new_answer op r) (plug around (after_new place r (read_cell T cell)))

abbrev pub NewReads : Type 0
NewReads =
    (parts : List SourceCode) (T : Table Ref) → Agrees T (store parts)
    → (a : ℕ) (self : Self Ref) (w : Shown) (t : Term Ref) (op : PlainOperation Ref) (after : NodeAfter) (o : Operation Ref) (around : List (Frame Ref)) → IsAtForm parts T a self w t op after o around
    → (cell : PlainCell Ref) → new_cell op ≡ Some cell → (r : Ref) → NewCellReads parts T a self w op after o around cell r

-- ---- threads and exported names

-- a fork: the thread's number or the raising of `fork_limit`, and the window of the new thread
pub record ForkedReads (parts : List SourceCode) (T : Table Ref) (a : ℕ) (self : Self Ref) (w : Shown) (f : PlainValue Ref) (after : NodeAfter) (o : Operation Ref) (around : List (Frame Ref)) : Type 0 where
  pub operation : o ≡ ForkOff (read_value T f)
  pub complete : IsComplete T f
  pub forked : (thread : ℕ) → AnsweredReads parts T a self w (PlainForkOff f) after (AnswerValue (ThreadValue thread)) (plug around (Const (Thread thread)))
  pub refused : AnsweredReads parts T a self w (PlainForkOff f) after (answer_raises (codes "fork_limit")) (plug around fork_limit)
  pub thread : (outside : Around) → ReadsAs parts T outside.activations outside.current (called_shown f [] outside) (Form Call (Part (Const (read_value T f)) End))

abbrev pub ForkReads : Type 0
ForkReads =
    (parts : List SourceCode) (T : Table Ref) → Agrees T (store parts)
    → (a : ℕ) (self : Self Ref) (w : Shown) (t : Term Ref) (f : PlainValue Ref) (after : NodeAfter) (o : Operation Ref) (around : List (Frame Ref)) → IsAtForm parts T a self w t (PlainForkOff f) after o around
    → ForkedReads parts T a self w f after o around

-- a join: how the thread ended
pub record JoinedReads (parts : List SourceCode) (T : Table Ref) (a : ℕ) (self : Self Ref) (w : Shown) (thread : ℕ) (after : NodeAfter) (o : Operation Ref) (around : List (Frame Ref)) : Type 0 where
  pub operation : o ≡ JoinWith thread
  pub returned : (v : PlainValue Ref) → IsComplete T v → AnsweredReads parts T a self w (PlainJoin thread) after (AnswerValue v) (plug around (Const (read_value T v)))
  pub failed : (e : Bytes) → AnsweredReads parts T a self w (PlainJoin thread) after (answer_raises e) (plug around (raise e))

abbrev pub JoinReads : Type 0
JoinReads =
    (parts : List SourceCode) (T : Table Ref) → Agrees T (store parts)
    → (a : ℕ) (self : Self Ref) (w : Shown) (t : Term Ref) (thread : ℕ) (after : NodeAfter) (o : Operation Ref) (around : List (Frame Ref)) → IsAtForm parts T a self w t (PlainJoin thread) after o around
    → JoinedReads parts T a self w thread after o around

-- an export
pub record ExportedReads (parts : List SourceCode) (T : Table Ref) (a : ℕ) (self : Self Ref) (w : Shown) (x namer : Bytes) (v : PlainValue Ref) (after : NodeAfter) (o : Operation Ref) (around : List (Frame Ref)) : Type 0 where
  pub operation : o ≡ Export x (read_value T v)
  pub complete : IsComplete T v
  pub reads : AnsweredReads parts T a self w (PlainExport x namer v) after (AnswerValue OkayValue) (plug around (Const Okay))

abbrev pub ExportReads : Type 0
ExportReads =
    (parts : List SourceCode) (T : Table Ref) → Agrees T (store parts)
    → (a : ℕ) (self : Self Ref) (w : Shown) (t : Term Ref) (x namer : Bytes) (v : PlainValue Ref) (after : NodeAfter) (o : Operation Ref) (around : List (Frame Ref)) → IsAtForm parts T a self w t (PlainExport x namer v) after o around
    → ExportedReads parts T a self w x namer v after o around
