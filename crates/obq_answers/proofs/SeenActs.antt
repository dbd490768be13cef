-- Acts at the form of a window over the references of a World.
use Rattle.std.specs.Prelude.{List, None, Option, Some, codes, option_map, refl, ℕ, ◌≡◌}
use Rattle.std.proofs.Common.{ap, sym, ◌∙◌}
use Rattle.obq_base.specs.declared.code.SourceCode.{SourceCode}
use Rattle.obq_base.specs.declared.places.Ref.{Ref}
use Rattle.obq_model.specs.Cells.{again_row, cell_row, import_row}
use Rattle.obq_model.specs.Maps.{map_after, map_cell, map_frames, map_operation, map_self, map_term, map_value}
use Rattle.obq_model.specs.Step.{Again, Frame, Operation, Self, activations_at, self_at}
use Rattle.obq_model.specs.Terms.{Term}
use Rattle.obq_model.proofs.NaturalCells.{map_after_new, map_again, map_cell_row, map_import}
use Rattle.obq_model.proofs.Naturality.{map_activations_at, map_self_at}
use Rattle.obq_moves.specs.Store.{same_ref, store}
use Rattle.obq_moves.specs.Views.{Shown}
use Rattle.obq_answers.specs.Forms.{ExportedReads, ForkedReads, FormSays, JoinedReads, NewCellReads, RowReads}
use Rattle.obq_answers.specs.Worlds.{CellSeen, ExportSeen, ForkSeen, FormSeen, JoinSeen, NameSeen, NewSeen, RetakeSeen, RowSeen, seen, seen_cell, seen_value}
use Rattle.obq_answers.proofs.Forms.{answer_reads, form_keeps}
use Rattle.obq_answers.proofs.Leaving.{cell_reads, name_reads, new_cell_reads, retake_reads}
use Rattle.obq_answers.proofs.Seen.{OwnForm, answered_seen, own_form, seen_reads, tells}
use Rattle.obq_answers.proofs.Threads.{export_reads, fork_reads, join_reads}
use Rattle.obq_stands.specs.World.{Ends, Idle, Row}
use Rattle.obq_stands.specs.World as world
use Rattle.obq_windows.specs.Acts.{AnswerValue, left_by}
use Rattle.obq_windows.specs.Rows.{PlainCell, PlainEnds, PlainOutcome, PlainWaits, again_plain, answer_raises, import_plain, new_answer, plain_row, read_cell}
use Rattle.obq_windows.specs.Trees.{PlainAgain, PlainExport, PlainForkOff, PlainImport, PlainJoin, PlainOperation, read_operation}
use Rattle.obq_windows.specs.Values.{OkayValue, PlainValue, Table, ThreadValue, read_value}
use Rattle.obq_windows.specs.Windows.{NodeAfter, node_params}

pub form_seen : FormSeen
form_seen parts T g a self w t op after o around h =
    let k : OwnForm parts T a self w op after o around = own_form parts T g a self w t op after o around h in
    let f : FormSays T a k.own w op k.needed k.frames = form_keeps parts T g a k.own w k.term op after k.needed k.frames k.form in
    record {
      scope = f.scope;
      operation = k.operation ∙ ap (map_operation seen) f.operation;
      complete = f.complete;
      activations = f.activations ∙ sym (map_activations_at seen a k.frames) ∙ ap (activations_at a) (sym k.around_is);
      current = ap (map_self seen) f.current ∙ map_self_at seen k.own k.frames ∙ ap (λ (z : Self world.Ref). self_at z (map_frames seen k.frames)) (sym k.self_is) ∙ ap (self_at self) (sym k.around_is);
      answers = λ answer c. answered_seen parts T a self w op after o around k answer (left_by T k.needed answer) (answer_reads parts T g a k.own w k.term op after k.needed k.frames k.form answer c) (map_term seen (left_by T (read_operation T op f.scope) answer))
          (ap (λ (z : Operation Ref). map_term seen (left_by T z answer)) (sym f.operation));
    }

-- ---- rows

abbrev pub map_row : Row Ref → Row world.Ref
map_row Idle = Idle
map_row (Ends kind cell t) = Ends kind (option_map (map_cell seen) cell) (map_term seen t)

pub cells_seen : (T : Table Ref) (cell : Option (PlainCell Ref)) → option_map (map_cell seen) (option_map (read_cell T) cell) ≡ option_map (seen_cell T) cell
cells_seen T None = refl
cells_seen T (Some cell) = refl

values_seen : (T : Table Ref) (v : Option (PlainValue Ref)) → option_map (map_value seen) (option_map (read_value T) v) ≡ option_map (seen_value T) v
values_seen T None = refl
values_seen T (Some v) = refl

row_seen : (parts : List SourceCode) (T : Table Ref) (a : ℕ) (self : Self world.Ref) (w : Shown) (op : PlainOperation Ref) (after : NodeAfter) (o : Operation world.Ref) (around : List (Frame world.Ref)) (k : OwnForm parts T a self w op after o around) (outcome : PlainOutcome Ref) (row : Row Ref)
    → RowReads parts T a k.own w Ends Idle op after k.needed k.frames outcome row → (r : Row world.Ref) → r ≡ map_row row → RowSeen parts T a self w op after around outcome r
row_seen parts T a self w op after o around k PlainWaits row h r e = e ∙ ap map_row h
row_seen parts T a self w op after o around k (PlainEnds kind left answer) row h r e = (
  map_term seen (left_by T k.needed answer),
  e ∙ ap map_row h.0 ∙ ap (λ z. Ends kind z (map_term seen (left_by T k.needed answer))) (cells_seen T left),
  h.1,
  answered_seen parts T a self w op after o around k answer (left_by T k.needed answer) h.2 (map_term seen (left_by T k.needed answer)) refl,
)

pub cell_seen : CellSeen
cell_seen parts T g a self w t op after o around h thread cell c =
    let k : OwnForm parts T a self w op after o around = own_form parts T g a self w t op after o around h in
    row_seen parts T a self w op after o around k (plain_row (node_params (store parts)) same_ref thread w.current op cell) (cell_row same_ref Ends Idle thread (self_at k.own k.frames) k.needed (option_map (read_cell T) cell))
    (cell_reads parts T g a k.own w k.term op after k.needed k.frames k.form Ends Idle thread cell c)
    (cell_row world.same_ref Ends Idle thread (self_at self around) o (option_map (seen_cell T) cell))
    (ap (λ (z : Self world.Ref). cell_row world.same_ref Ends Idle thread z o (option_map (seen_cell T) cell))
    (ap (λ (z : Self world.Ref). self_at z around) k.self_is ∙ ap (self_at (map_self seen k.own)) k.around_is ∙ sym (map_self_at seen k.own k.frames))
    ∙ ap (λ (z : Operation world.Ref). cell_row world.same_ref Ends Idle thread (map_self seen (self_at k.own k.frames)) z (option_map (seen_cell T) cell)) k.operation
    ∙ ap (cell_row world.same_ref Ends Idle thread (map_self seen (self_at k.own k.frames)) (map_operation seen k.needed)) (sym (cells_seen T cell))
    ∙ sym (map_cell_row seen map_row same_ref world.same_ref Ends Ends Idle Idle tells (λ kind z u. refl) refl thread (self_at k.own k.frames) k.needed (option_map (read_cell T) cell)))

pub retake_seen : RetakeSeen
retake_seen parts T g a self w t p c after o around h =
    let k : OwnForm parts T a self w (PlainAgain p c) after o around = own_form parts T g a self w t (PlainAgain p c) after o around h in
    let m : (guard : Term Ref) × (k.needed ≡ Again p c guard)
    × ((ends : _) (waits : Row Ref) (thread : ℕ) (lined : _) (cell : Option (PlainCell Ref)) → _ → RowReads parts T a k.own w ends waits (PlainAgain p c) after k.needed k.frames (again_plain thread lined cell) (again_row ends waits thread lined p c guard (option_map (read_cell T) cell))) =
    retake_reads parts T g a k.own w k.term p c after k.needed k.frames k.form in (
      map_term seen m.0,
      k.operation ∙ ap (map_operation seen) m.1,
      λ thread lined cell l. row_seen parts T a self w (PlainAgain p c) after o around k (again_plain thread lined cell) (again_row Ends Idle thread lined p c m.0 (option_map (read_cell T) cell)) (m.2 Ends Idle thread lined cell l)
          (again_row Ends Idle thread lined (seen p) (seen c) (map_term seen m.0) (option_map (seen_cell T) cell))
          (ap (again_row Ends Idle thread lined (seen p) (seen c) (map_term seen m.0)) (sym (cells_seen T cell)) ∙ sym (map_again seen map_row Ends Ends Idle Idle (λ kind z u. refl) refl thread lined p c m.0 (option_map (read_cell T) cell))),
    )

pub name_seen : NameSeen
name_seen parts T g a self w t x namer engine after o around h =
    let k : OwnForm parts T a self w (PlainImport x namer engine) after o around = own_form parts T g a self w t (PlainImport x namer engine) after o around h in (
      k.operation ∙ ap (map_operation seen) (name_reads {X = Row Ref} parts T g a k.own w k.term x namer engine after k.needed k.frames k.form).0,
      λ v c. row_seen parts T a self w (PlainImport x namer engine) after o around k (import_plain engine v) (import_row Ends Idle engine (option_map (read_value T) v))
          ((name_reads parts T g a k.own w k.term x namer engine after k.needed k.frames k.form).1 Ends Idle v c) (import_row Ends Idle engine (option_map (seen_value T) v))
          (ap (import_row Ends Idle engine) (sym (values_seen T v)) ∙ sym (map_import seen map_row Ends Ends Idle Idle (λ kind z u. refl) refl engine (option_map (read_value T) v))),
    )

pub new_seen : NewSeen
new_seen parts T g a self w t op after o around h cell e r =
    let k : OwnForm parts T a self w op after o around = own_form parts T g a self w t op after o around h in
    let m : NewCellReads parts T a k.own w op after k.needed k.frames cell r = new_cell_reads parts T g a k.own w k.term op after k.needed k.frames k.form cell e r in
    record {
      place = map_after seen m.place;
      operation = k.operation ∙ ap (map_operation seen) m.operation;
      complete = m.complete;
      reads = answered_seen parts T a self w op after o around k (new_answer op r) _ m.reads _ (sym (map_after_new seen m.place r (read_cell T cell)));
    }

-- ---- threads and exported names

pub fork_seen : ForkSeen
fork_seen parts T g a self w t f after o around h =
    let k : OwnForm parts T a self w (PlainForkOff f) after o around = own_form parts T g a self w t (PlainForkOff f) after o around h in
    let m : ForkedReads parts T a k.own w f after k.needed k.frames = fork_reads parts T g a k.own w k.term f after k.needed k.frames k.form in
    record {
      operation = k.operation ∙ ap (map_operation seen) m.operation;
      forked = λ thread. answered_seen parts T a self w (PlainForkOff f) after o around k (AnswerValue (ThreadValue thread)) _ (m.forked thread) _ refl;
      refused = answered_seen parts T a self w (PlainForkOff f) after o around k (answer_raises (codes "fork_limit")) _ m.refused _ refl;
      thread = λ outside. seen_reads parts T outside.activations outside.current (map_self seen outside.current) refl _ _ (m.thread outside) _ refl;
    }

pub join_seen : JoinSeen
join_seen parts T g a self w t thread after o around h =
    let k : OwnForm parts T a self w (PlainJoin thread) after o around = own_form parts T g a self w t (PlainJoin thread) after o around h in
    let m : JoinedReads parts T a k.own w thread after k.needed k.frames = join_reads parts T g a k.own w k.term thread after k.needed k.frames k.form in
    record {
      operation = k.operation ∙ ap (map_operation seen) m.operation;
      returned = λ v c. answered_seen parts T a self w (PlainJoin thread) after o around k (AnswerValue v) _ (m.returned v c) _ refl;
      failed = λ e. answered_seen parts T a self w (PlainJoin thread) after o around k (answer_raises e) _ (m.failed e) _ refl;
    }

pub export_seen : ExportSeen
export_seen parts T g a self w t x namer v after o around h =
    let k : OwnForm parts T a self w (PlainExport x namer v) after o around = own_form parts T g a self w t (PlainExport x namer v) after o around h in
    let m : ExportedReads parts T a k.own w x namer v after k.needed k.frames = export_reads parts T g a k.own w k.term x namer v after k.needed k.frames k.form in
    record {
      operation = k.operation ∙ ap (map_operation seen) m.operation;
      complete = m.complete;
      reads = answered_seen parts T a self w (PlainExport x namer v) after o around k (AnswerValue OkayValue) _ m.reads _ refl;
    }
