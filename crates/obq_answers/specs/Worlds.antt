-- Windows as a World of several heaps sees them: over its own references, as any term in which the same stands next.
use Rattle.std.specs.Prelude.{Bool, List, None, Option, Some, [], codes, map, option_map, ℕ, ◌∷◌, ◌≡◌}
use Rattle.obq_base.specs.declared.code.SourceCode.{SourceCode}
use Rattle.obq_base.specs.declared.places.Ref.{Ref}
use Rattle.obq_builtin.specs.Reading.{kind_of}
use Rattle.obq_model.specs.Cells.{after_new, again_row, cell_row, import_row}
use Rattle.obq_model.specs.Exceptions.{exit_outside, fork_limit}
use Rattle.obq_model.specs.Maps.{map_cell, map_operation, map_self, map_term, map_value}
use Rattle.obq_model.specs.Step.{After, Again, Done, Export, ForkOff, Found, Frame, Import, JoinWith, Needs, New, Operation, Self, Uncaught, activations_at, body_with, find, plug, self_at}
use Rattle.obq_model.specs.Store.{Cell}
use Rattle.obq_model.specs.Terms.{Bytes, Call, Called, Const, End, ExitUp, Exn, Form, Loc, Mode, Object, Okay, Part, Term, Thread, Value, Within}
use Rattle.obq_moves.specs.Store.{same_ref, store}
use Rattle.obq_moves.specs.Views.{Shown}
use Rattle.obq_answers.specs.Beginnings.{Around, called_shown, engine_shown, method_shown}
use Rattle.obq_answers.specs.Forms.{CompleteMaybe, answered_at, with_focus}
use Rattle.obq_answers.specs.Readings.{IsAtEnd, ReadsLike}
use Rattle.obq_stands.specs.Events.{ends_as}
use Rattle.obq_stands.specs.Stands.{after_steps}
use Rattle.obq_stands.specs.World.{ByException, ByValue, Ending, Ends, Idle, Row, ending_term}
use Rattle.obq_stands.specs.World as world
use Rattle.obq_windows.specs.Acts.{AnswerValue, CompleteAnswer, PlainAnswer, Takes, left_by}
use Rattle.obq_windows.specs.Agrees.{Agrees}
use Rattle.obq_windows.specs.Complete.{AllComplete, CompleteOperation, IsComplete}
use Rattle.obq_windows.specs.Rows.{CompleteCell, CompleteLeft, PlainCell, PlainEnds, PlainOutcome, PlainWaits, again_plain, answer_raises, import_plain, new_answer, new_cell, plain_row, read_cell}
use Rattle.obq_windows.specs.Runs.{pure_steps}
use Rattle.obq_windows.specs.Trees.{PlainAgain, PlainExport, PlainForkOff, PlainImport, PlainJoin, PlainOperation, read_operation}
use Rattle.obq_windows.specs.Values.{LocationValue, OkayValue, PlainValue, Table, ThreadValue, read_all, read_value}
use Rattle.obq_windows.specs.Windows.{NodeAct, NodeAfter, NodeFocus, NodeRaising, NodeValue, node_params}

-- the World's reference for a cell, and its values and cells
abbrev pub seen : Ref → world.Ref
seen r = record { site = r.site.0; kind = kind_of r.kind; index = r.n }

abbrev pub seen_value : Table Ref → PlainValue Ref → Value world.Ref
seen_value T v = map_value seen (read_value T v)

abbrev pub seen_cell : Table Ref → PlainCell Ref → Cell world.Ref
seen_cell T cell = map_cell seen (read_cell T cell)

-- with a activations and this current self around it, the window reads back as a term in which the same stands next as in t
pub record SeenAs (parts : List SourceCode) (T : Table Ref) (a : ℕ) (self : Self world.Ref) (w : Shown) (t : Term world.Ref) : Type 0 where
  pub own : Self Ref
  pub term : Term Ref
  pub like : ReadsLike parts T a own w term
  pub self_is : self ≡ map_self seen own
  pub term_is : t ≡ map_term seen term

-- so the window behind an answer, whatever stood in its focus
abbrev pub AnsweredSeen : List SourceCode → Table Ref → ℕ → Self world.Ref → Shown → PlainOperation Ref → NodeAfter → PlainAnswer Ref → Term world.Ref → Type 0
AnsweredSeen parts T a self w op after answer t = (x : NodeFocus Ref) → SeenAs parts T a self (answered_at parts op after answer (with_focus x w)) t

-- the form of this operation over plain values is in the focus, and this operation stands next in the term, in these frames
pub record SeenForm (parts : List SourceCode) (T : Table Ref) (a : ℕ) (self : Self world.Ref) (w : Shown) (t : Term world.Ref) (op : PlainOperation Ref) (after : NodeAfter) (o : Operation world.Ref) (around : List (Frame world.Ref)) : Type 0 where
  pub like : SeenAs parts T a self w t
  pub form : w.focus ≡ NodeAct op after
  pub next : find world.same_ref a self t ≡ Needs o around

-- ---- pure steps, and ends

abbrev pub StepsSeen : Type 0
StepsSeen = (a : ℕ) (own : Self Ref) (n : ℕ) (t u : Term Ref) → pure_steps same_ref a own n t ≡ Some u → after_steps a (map_self seen own) n (map_term seen t) ≡ Some (map_term seen u)

-- how a thread ends whose window has this in its focus
abbrev pub ending_at : Table Ref → NodeFocus Ref → Option Ending
ending_at T (NodeValue v) = Some (ByValue (seen_value T v))
ending_at T (NodeRaising (Exn e)) = Some (ByException e)
ending_at T (NodeRaising ExitUp) = Some (ByException exit_outside)
ending_at T x = None

-- a window at its end
abbrev pub EndSeen : Type 0
EndSeen =
    (parts : List SourceCode) (T : Table Ref) (a : ℕ) (own : Self Ref) (w : Shown) (t : Term Ref) → IsAtEnd parts T a own w t
    → ends_as (find world.same_ref a (map_self seen own) (map_term seen t)) ≡ ending_at T w.focus

-- what stands next where this is in the focus outside of all frames
abbrev pub BottomIs : Table Ref → Found world.Ref → NodeFocus Ref → Type 0
BottomIs T found (NodeValue v) = (found ≡ Done (seen_value T v)) × IsComplete T v
BottomIs T found (NodeRaising r) = found ≡ Uncaught r
BottomIs T found x = Unit {0}

abbrev pub BottomSeen : Type 0
BottomSeen =
    (parts : List SourceCode) (T : Table Ref) (a : ℕ) (self : Self world.Ref) (w : Shown) (t : Term world.Ref) → SeenAs parts T a self w t → w.frames ≡ []
    → BottomIs T (find world.same_ref a self t) w.focus

-- ---- acts

-- what is said of a window at a form, and of every answer there
pub record FormShows (parts : List SourceCode) (T : Table Ref) (a : ℕ) (self : Self world.Ref) (w : Shown) (op : PlainOperation Ref) (after : NodeAfter) (o : Operation world.Ref) (around : List (Frame world.Ref)) : Type 0 where
  pub scope : Term Ref
  pub operation : o ≡ map_operation seen (read_operation T op scope)
  pub complete : CompleteOperation T op
  pub activations : w.activations ≡ activations_at a around
  pub current : map_self seen w.current ≡ self_at self around
  pub answers : (answer : PlainAnswer Ref) → CompleteAnswer T op answer → AnsweredSeen parts T a self w op after answer (plug around (map_term seen (left_by T (read_operation T op scope) answer)))

abbrev pub FormSeen : Type 0
FormSeen =
    (parts : List SourceCode) (T : Table Ref) → Agrees T (store parts)
    → (a : ℕ) (self : Self world.Ref) (w : Shown) (t : Term world.Ref) (op : PlainOperation Ref) (after : NodeAfter) (o : Operation world.Ref) (around : List (Frame world.Ref)) → SeenForm parts T a self w t op after o around
    → FormShows parts T a self w op after o around

-- what code over plain values comes to is this row of the operation, and what the row leaves at the focus is what the answered window has in the frames
abbrev pub RowSeen : List SourceCode → Table Ref → ℕ → Self world.Ref → Shown → PlainOperation Ref → NodeAfter → List (Frame world.Ref) → PlainOutcome Ref → Row world.Ref → Type 0
RowSeen parts T a self w op after around PlainWaits row = row ≡ Idle
RowSeen parts T a self w op after around (PlainEnds kind left answer) row =
    (x : Term world.Ref) × (row ≡ Ends kind (option_map (seen_cell T) left) x) × CompleteLeft T left × AnsweredSeen parts T a self w op after answer (plug around x)

abbrev pub CellSeen : Type 0
CellSeen =
    (parts : List SourceCode) (T : Table Ref) → Agrees T (store parts)
    → (a : ℕ) (self : Self world.Ref) (w : Shown) (t : Term world.Ref) (op : PlainOperation Ref) (after : NodeAfter) (o : Operation world.Ref) (around : List (Frame world.Ref)) → SeenForm parts T a self w t op after o around
    → (thread : ℕ) (cell : Option (PlainCell Ref)) → CompleteLeft T cell
    → RowSeen parts T a self w op after around (plain_row (node_params (store parts)) same_ref thread w.current op cell) (cell_row world.same_ref Ends Idle thread (self_at self around) o (option_map (seen_cell T) cell))

abbrev pub RetakeSeen : Type 0
RetakeSeen =
    (parts : List SourceCode) (T : Table Ref) → Agrees T (store parts)
    → (a : ℕ) (self : Self world.Ref) (w : Shown) (t : Term world.Ref) (p c : Ref) (after : NodeAfter) (o : Operation world.Ref) (around : List (Frame world.Ref)) → SeenForm parts T a self w t (PlainAgain p c) after o around
    → (guard : Term world.Ref) × (o ≡ Again (seen p) (seen c) guard)
    × ((thread : ℕ) (lined : Bool) (cell : Option (PlainCell Ref)) → CompleteLeft T cell
    → RowSeen parts T a self w (PlainAgain p c) after around (again_plain thread lined cell) (again_row Ends Idle thread lined (seen p) (seen c) guard (option_map (seen_cell T) cell)))

abbrev pub NameSeen : Type 0
NameSeen =
    (parts : List SourceCode) (T : Table Ref) → Agrees T (store parts)
    → (a : ℕ) (self : Self world.Ref) (w : Shown) (t : Term world.Ref) (x namer : Bytes) (engine : Bool) (after : NodeAfter) (o : Operation world.Ref) (around : List (Frame world.Ref)) → SeenForm parts T a self w t (PlainImport x namer engine) after o around
    → (o ≡ Import x engine)
    × ((v : Option (PlainValue Ref)) → CompleteMaybe T v → RowSeen parts T a self w (PlainImport x namer engine) after around (import_plain engine v) (import_row Ends Idle engine (option_map (seen_value T) v)))

-- a new cell at r
pub record NewCellSeen (parts : List SourceCode) (T : Table Ref) (a : ℕ) (self : Self world.Ref) (w : Shown) (op : PlainOperation Ref) (after : NodeAfter) (o : Operation world.Ref) (around : List (Frame world.Ref)) (cell : PlainCell Ref) (r : Ref) : Type 0 where
  pub place : After world.Ref
  pub operation : o ≡ New (seen_cell T cell) place
  pub complete : CompleteCell T cell
  pub reads : AnsweredSeen parts T a self w op after (new_answer op r) (plug around (after_new place (seen r) (seen_cell T cell)))

abbrev pub NewSeen : Type 0
NewSeen =
    (parts : List SourceCode) (T : Table Ref) → Agrees T (store parts)
    → (a : ℕ) (self : Self world.Ref) (w : Shown) (t : Term world.Ref) (op : PlainOperation Ref) (after : NodeAfter) (o : Operation world.Ref) (around : List (Frame world.Ref)) → SeenForm parts T a self w t op after o around
    → (cell : PlainCell Ref) → new_cell op ≡ Some cell → (r : Ref) → NewCellSeen parts T a self w op after o around cell r

-- a fork, a join and an export
pub record ForkedSeen (parts : List SourceCode) (T : Table Ref) (a : ℕ) (self : Self world.Ref) (w : Shown) (f : PlainValue Ref) (after : NodeAfter) (o : Operation world.Ref) (around : List (Frame world.Ref)) : Type 0 where
  pub operation : o ≡ ForkOff (seen_value T f)
  pub forked : (thread : ℕ) → AnsweredSeen parts T a self w (PlainForkOff f) after (AnswerValue (ThreadValue thread)) (plug around (Const (Thread thread)))
  pub refused : AnsweredSeen parts T a self w (PlainForkOff f) after (answer_raises (codes "fork_limit")) (plug around fork_limit)
  pub thread : (outside : Around) → SeenAs parts T outside.activations (map_self seen outside.current) (called_shown f [] outside) (Form Call (Part (Const (seen_value T f)) End))

abbrev pub ForkSeen : Type 0
ForkSeen =
    (parts : List SourceCode) (T : Table Ref) → Agrees T (store parts)
    → (a : ℕ) (self : Self world.Ref) (w : Shown) (t : Term world.Ref) (f : PlainValue Ref) (after : NodeAfter) (o : Operation world.Ref) (around : List (Frame world.Ref)) → SeenForm parts T a self w t (PlainForkOff f) after o around
    → ForkedSeen parts T a self w f after o around

pub record JoinedSeen (parts : List SourceCode) (T : Table Ref) (a : ℕ) (self : Self world.Ref) (w : Shown) (thread : ℕ) (after : NodeAfter) (o : Operation world.Ref) (around : List (Frame world.Ref)) : Type 0 where
  pub operation : o ≡ JoinWith thread
  pub returned : (v : PlainValue Ref) → IsComplete T v → AnsweredSeen parts T a self w (PlainJoin thread) after (AnswerValue v) (plug around (ending_term (ByValue (seen_value T v))))
  pub failed : (e : Bytes) → AnsweredSeen parts T a self w (PlainJoin thread) after (answer_raises e) (plug around (ending_term (ByException e)))

abbrev pub JoinSeen : Type 0
JoinSeen =
    (parts : List SourceCode) (T : Table Ref) → Agrees T (store parts)
    → (a : ℕ) (self : Self world.Ref) (w : Shown) (t : Term world.Ref) (thread : ℕ) (after : NodeAfter) (o : Operation world.Ref) (around : List (Frame world.Ref)) → SeenForm parts T a self w t (PlainJoin thread) after o around
    → JoinedSeen parts T a self w thread after o around

pub record ExportedSeen (parts : List SourceCode) (T : Table Ref) (a : ℕ) (self : Self world.Ref) (w : Shown) (x namer : Bytes) (v : PlainValue Ref) (after : NodeAfter) (o : Operation world.Ref) (around : List (Frame world.Ref)) : Type 0 where
  pub operation : o ≡ Export x (seen_value T v)
  pub complete : IsComplete T v
  pub reads : AnsweredSeen parts T a self w (PlainExport x namer v) after (AnswerValue OkayValue) (plug around (Const Okay))

abbrev pub ExportSeen : Type 0
ExportSeen =
    (parts : List SourceCode) (T : Table Ref) → Agrees T (store parts)
    → (a : ℕ) (self : Self world.Ref) (w : Shown) (t : Term world.Ref) (x namer : Bytes) (v : PlainValue Ref) (after : NodeAfter) (o : Operation world.Ref) (around : List (Frame world.Ref)) → SeenForm parts T a self w t (PlainExport x namer v) after o around
    → ExportedSeen parts T a self w x namer v after o around

-- ---- windows that begin

pub record BegunSeen (parts : List SourceCode) (T : Table Ref) (f : PlainValue Ref) (vs : List (PlainValue Ref)) (outside : Around) : Type 0 where
  pub engine : Takes T f vs → SeenAs parts T outside.activations (map_self seen outside.current) (engine_shown f vs outside) (Form Called (Part (body_with (seen_value T f) (map (map_value seen) (read_all T vs))) End))
  pub method : (o : Ref) (m : Mode) → Takes T f (LocationValue Object o ∷ vs)
      → SeenAs parts T outside.activations (map_self seen outside.current) (method_shown o m f vs outside) (Form (Within (seen o) m) (Part (body_with (seen_value T f) (Loc Object (seen o) ∷ map (map_value seen) (read_all T vs))) End))

abbrev pub FirstSeen : Type 0
FirstSeen = (parts : List SourceCode) (T : Table Ref) → Agrees T (store parts) → (f : PlainValue Ref) → IsComplete T f → (vs : List (PlainValue Ref)) → AllComplete T vs → (outside : Around) → BegunSeen parts T f vs outside
