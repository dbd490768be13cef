-- What a row leaves at the form of a window: the row of the term's operation, and the window behind the answer.
use Rattle.std.specs.Prelude.{Bool, List, None, Option, Some, [], false, if◌then◌else◌, not, option_map, true, ℕ, ◌||◌, ◌≡◌, ◌⊎◌}
use Rattle.std.proofs.Common.{ap, inl, inr, subst, sym, ◌∙◌}
use Rattle.obq_base.specs.declared.acts.ActKind.{ActKind}
use Rattle.obq_base.specs.declared.code.SourceCode.{SourceCode}
use Rattle.obq_base.specs.declared.places.Ref.{Ref}
use Rattle.obq_model.specs.Cells.{Ends, again_row, cell_row, import_row}
use Rattle.obq_model.specs.Step.{Frame, JoinWith, Operation, Self, plug}
use Rattle.obq_model.specs.Terms.{Bytes, Engine, Term}
use Rattle.obq_moves.specs.Store.{same_ref, store}
use Rattle.obq_moves.specs.Views.{Shown}
use Rattle.obq_answers.specs.Forms.{AnsweredReads, CellReads, CompleteMaybe, IsAtForm, NameReads, NewReads, RetakeReads, RowReads}
use Rattle.obq_answers.proofs.Asking.{IsAsked, own_needs}
use Rattle.obq_answers.proofs.Forms.{Own, answer_reads, asked_or, form_keeps, form_term, own, own_goes_on}
use Rattle.obq_windows.specs.Acts.{AnswerTest, left_by}
use Rattle.obq_windows.specs.Agrees.{Agrees}
use Rattle.obq_windows.specs.Rows.{CompleteLeft, CompleteOutcome, MakesCell, PlainArray, PlainCell, PlainCondition, PlainEnds, PlainEngine, PlainObject, PlainOutcome, PlainVariable, PlainWaits, PlainWriter, StandsFor, again_plain, import_plain, is_plain_free, new_answer, plain_owned, plain_row, read_cell, read_outcome}
use Rattle.obq_windows.specs.Trees.{PlainAgain, PlainCloning, PlainField, PlainImport, PlainOperation, TreeAct, frames_of, read_operation, scope_after, term_of}
use Rattle.obq_windows.specs.Values.{LocationValue, PlainValue, Table, read_value}
use Rattle.obq_windows.specs.Windows.{NodeAfter, node_params}
use Rattle.obq_windows.proofs.ActRows.{rows_complete, rows_read}
use Rattle.obq_windows.proofs.Rows.{again_reads, import_reads, new_reads}
use Rattle.obq_windows.proofs.Whole.{made_of}

-- a row and what it leaves: with what the outcome is in terms, and its complete parts, the window behind it is known
by_outcome : {X : Type 0} (parts : List SourceCode) (T : Table Ref) → Agrees T (store parts) → (a : ℕ) (self : Self Ref) (w : Shown) (t : Term Ref) (op : PlainOperation Ref) (after : NodeAfter) (o : Operation Ref) (around : List (Frame Ref)) → IsAtForm parts T a self w t op after o around
    → (ends : Ends Ref X) (waits : X) (outcome : PlainOutcome Ref) (row : X) → row ≡ read_outcome T ends waits o outcome → CompleteOutcome T op outcome → RowReads parts T a self w ends waits op after o around outcome row
by_outcome parts T g a self w t op after o around h ends waits PlainWaits row e c = e
by_outcome parts T g a self w t op after o around h ends waits (PlainEnds kind left answer) row e c = (e, c.0, answer_reads parts T g a self w t op after o around h answer c.1)

-- ---- an operation on one cell

cell_asked : {X : Type 0} (parts : List SourceCode) (T : Table Ref) → Agrees T (store parts) → (a : ℕ) (self : Self Ref) (w : Shown) (t : Term Ref) (op : PlainOperation Ref) (after : NodeAfter) (o : Operation Ref) (around : List (Frame Ref)) (h : IsAtForm parts T a self w t op after o around)
    → (ends : Ends Ref X) (waits : X) (thread : ℕ) (cell : Option (PlainCell Ref)) → CompleteLeft T cell → IsAsked op ⊎ ((fields : List (PlainField Ref)) × (op ≡ PlainCloning None fields []))
    → RowReads parts T a self w ends waits op after o around (plain_row (node_params (store parts)) same_ref thread w.current op cell) (cell_row same_ref ends waits thread w.current o (option_map (read_cell T) cell))
cell_asked parts T g a self w t op after o around h ends waits thread cell c (inl asked) =
    let k : Own parts T a self w t op after o around = own parts T a self w t op after o around h in
    let stands : StandsFor same_ref T (store parts) op (read_operation T op (scope_after T k.tree)) = (
      a,
      self,
      w.act,
      w.frames,
      after,
      term_of T k.frames (TreeAct op k.tree),
      form_term T (store parts) w.act k.height w.frames k.frames k.are_frames k.complete op after k.tree k.is_after k.operands k.place,
      frames_of T k.frames,
      own_needs same_ref T (made_of T (store parts) g) a self k.frames op k.tree (own_goes_on parts T g a self w t op after o around k asked),
    ) in
    by_outcome parts T g a self w t op after o around h ends waits (plain_row (node_params (store parts)) same_ref thread w.current op cell) (cell_row same_ref ends waits thread w.current o (option_map (read_cell T) cell))
    (subst (λ (z : Operation Ref). cell_row same_ref ends waits thread w.current z (option_map (read_cell T) cell) ≡ read_outcome T ends waits z (plain_row (node_params (store parts)) same_ref thread w.current op cell)) (sym k.operation)
    (rows_read same_ref T (store parts) g op (read_operation T op (scope_after T k.tree)) stands ends waits thread w.current cell c))
    (rows_complete same_ref T (store parts) g op (read_operation T op (scope_after T k.tree)) stands thread w.current cell c)
cell_asked {X} parts T g a self w t op after o around h ends waits thread cell c (inr (fields, e)) =
    let k : Own parts T a self w t op after o around = own parts T a self w t op after o around h in
    let joins : o ≡ JoinWith 0 = k.operation ∙ ap (λ (z : PlainOperation Ref). read_operation T z (scope_after T k.tree)) e in
    subst (λ (z : PlainOperation Ref). RowReads parts T a self w ends waits op after o around (plain_row (node_params (store parts)) same_ref thread w.current z cell) (cell_row same_ref ends waits thread w.current o (option_map (read_cell T) cell))) (sym e)
    (ap (λ (z : Operation Ref). cell_row same_ref ends waits thread w.current z (option_map (read_cell T) cell)) joins)

pub cell_reads : {X : Type 0} → CellReads X
cell_reads {X} parts T g a self w t op after o around h ends waits thread cell c =
    subst (λ (z : Self Ref). RowReads parts T a self w ends waits op after o around (plain_row (node_params (store parts)) same_ref thread w.current op cell) (cell_row same_ref ends waits thread z o (option_map (read_cell T) cell))) (form_keeps parts T g a self w t op after o around h).current
    (cell_asked parts T g a self w t op after o around h ends waits thread cell c (asked_or op))

-- ---- a mutex that is taken again, a name that is read, a new cell

pub owned_complete : (T : Table Ref) (owner : Option ℕ) (cell : Option (PlainCell Ref)) → CompleteLeft T cell → CompleteLeft T (plain_owned owner cell)
owned_complete T owner None c = c
owned_complete T owner (Some (PlainObject flags old fields)) c = c
owned_complete T owner (Some (PlainArray vs)) c = tt
owned_complete T owner (Some (PlainVariable v)) c = tt
owned_complete T owner (Some (PlainWriter bytes)) c = tt
owned_complete T owner (Some (PlainCondition line)) c = tt
owned_complete T owner (Some (PlainEngine v)) c = tt

again_complete : (T : Table Ref) (p c : Ref) (thread : ℕ) (b : Bool) (cell : Option (PlainCell Ref)) → CompleteLeft T cell → CompleteOutcome T (PlainAgain p c) (again_plain thread b cell)
again_complete T p c thread b cell k = at (b || not (is_plain_free cell)) where
  at : (z : Bool) → CompleteOutcome T (PlainAgain p c) (if z then PlainWaits else PlainEnds ActKind.Again (plain_owned (Some thread) cell) AnswerTest)
  at true = tt
  at false = (owned_complete T (Some thread) cell k, tt)

pub retake_reads : {X : Type 0} → RetakeReads X
retake_reads {X} parts T g a self w t p c after o around h =
    let k : Own parts T a self w t (PlainAgain p c) after o around = own parts T a self w t (PlainAgain p c) after o around h in (
      scope_after T k.tree,
      k.operation,
      λ ends waits thread lined cell l.
          by_outcome parts T g a self w t (PlainAgain p c) after o around h ends waits (again_plain thread lined cell) (again_row ends waits thread lined p c (scope_after T k.tree) (option_map (read_cell T) cell))
          (subst (λ (z : Operation Ref). again_row ends waits thread lined p c (scope_after T k.tree) (option_map (read_cell T) cell) ≡ read_outcome T ends waits z (again_plain thread lined cell)) (sym k.operation)
          (again_reads T ends waits thread lined p c (scope_after T k.tree) cell))
          (again_complete T p c thread lined cell l),
    )

import_complete : (T : Table Ref) (x namer : Bytes) (engine : Bool) (v : Option (PlainValue Ref)) → CompleteMaybe T v → CompleteOutcome T (PlainImport x namer engine) (import_plain engine v)
import_complete T x namer engine None c = tt
import_complete T x namer false (Some v) c = (tt, c)
import_complete T x namer true (Some (LocationValue Engine e)) c = (tt, c)
import_complete T x namer true (Some v) c = (tt, tt)

pub name_reads : {X : Type 0} → NameReads X
name_reads {X} parts T g a self w t x namer engine after o around h =
    let k : Own parts T a self w t (PlainImport x namer engine) after o around = own parts T a self w t (PlainImport x namer engine) after o around h in (
      k.operation,
      λ ends waits v c.
          by_outcome parts T g a self w t (PlainImport x namer engine) after o around h ends waits (import_plain engine v) (import_row ends waits engine (option_map (read_value T) v))
          (subst (λ (z : Operation Ref). import_row ends waits engine (option_map (read_value T) v) ≡ read_outcome T ends waits z (import_plain engine v)) (sym k.operation) (import_reads T ends waits x engine v))
          (import_complete T x namer engine v c),
    )

pub new_cell_reads : NewReads
new_cell_reads parts T g a self w t op after o around h cell e r =
    let k : Own parts T a self w t op after o around = own parts T a self w t op after o around h in
    let m : MakesCell T op (scope_after T k.tree) cell r = new_reads T op cell e (scope_after T k.tree) r in
    record {
      place = m.after;
      operation = k.operation ∙ m.operation;
      complete = (m.complete k.operands).0;
      reads = λ x. subst (λ (z : Term Ref). AnsweredReads parts T a self w op after (new_answer op r) (plug around z)) (ap (λ (z : Operation Ref). left_by T z (new_answer op r)) k.operation ∙ sym m.left)
          (answer_reads parts T g a self w t op after o around h (new_answer op r) (m.complete k.operands).1) x;
    }
