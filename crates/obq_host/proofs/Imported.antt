-- Exports and imports as a World sees them.
use Rattle.std.specs.Prelude.{Bool, List, Some, false, true, ℕ, ◌≡◌}
use Rattle.std.specs.Prelude.{None}
use Rattle.std.proofs.Common.{ap, sym, true≢false, ◌∙◌}
use Rattle.obq_answers.specs.Forms.{with_focus}
use Rattle.obq_answers.specs.Worlds.{ExportedSeen, RowSeen, SeenAs, seen_value}
use Rattle.obq_answers.proofs.SeenActs.{export_seen, name_seen}
use Rattle.obq_base.specs.declared.acts.ActKind.{ActKind}
use Rattle.obq_base.specs.declared.code.SourceCode.{SourceCode}
use Rattle.obq_base.specs.declared.places.Ref.{Ref}
use Rattle.obq_host.specs.Exports.{imported_focus}
use Rattle.obq_host.specs.Stops.{AtForm}
use Rattle.obq_host.specs.Threads.{DueExport, DueImport, PlainDue, due_at, due_by}
use Rattle.obq_host.proofs.Forked.{NoStep, at_form}
use Rattle.obq_host.proofs.Forms.{import_is_next}
use Rattle.obq_model.specs.Cells.{import_row}
use Rattle.obq_model.specs.Step.{Export, Frame, Import, Needs, Operation, Self, find, plug}
use Rattle.obq_model.specs.Terms.{Bytes, Const, Engine, Okay, Term}
use Rattle.obq_moves.specs.Store.{store}
use Rattle.obq_moves.specs.Views.{Shown}
use Rattle.obq_stands.specs.World.{Ends, Idle}
use Rattle.obq_stands.specs.World as world
use Rattle.obq_windows.specs.Agrees.{Agrees}
use Rattle.obq_windows.specs.Complete.{IsComplete}
use Rattle.obq_windows.specs.Rows.{import_plain}
use Rattle.obq_windows.specs.Trees.{PlainExport, PlainImport, PlainOperation}
use Rattle.obq_windows.specs.Values.{LocationValue, OkayValue, PlainValue, Table}
use Rattle.obq_windows.specs.Windows.{NodeAct, NodeAfter, NodeFocus, NodeValue}

-- ---- the form that is due

abbrev IsExport : PlainDue → Bytes → PlainValue Ref → NodeFocus Ref → Type 0
IsExport due x v focus = due ≡ DueExport x v → (namer : Bytes) × (after : NodeAfter) × (focus ≡ NodeAct (PlainExport x namer v) after)

abbrev is_export : PlainDue → Bool
is_export (DueExport x v) = true
is_export due = false

abbrev export_name : Bytes → PlainDue → Bytes
export_name other (DueExport x v) = x
export_name other due = other

abbrev export_value : PlainValue Ref → PlainDue → PlainValue Ref
export_value other (DueExport x v) = v
export_value other due = other

export_form_in : (op : PlainOperation Ref) (after : NodeAfter) (x : Bytes) (v : PlainValue Ref) → IsExport (due_by op) x v (NodeAct op after)
export_form_in (PlainExport y namer u) after x v e = (namer, after, ap (λ z. NodeAct (PlainExport z namer u) after) (ap (export_name x) e) ∙ ap (λ z. NodeAct (PlainExport x namer z) after) (ap (export_value v) e))
export_form_in op after x v e = absurd (true≢false (sym (ap is_export e)))

export_form : (focus : NodeFocus Ref) (x : Bytes) (v : PlainValue Ref) → IsExport (due_at focus) x v focus
export_form (NodeAct op after) x v e = export_form_in op after x v e
export_form focus x v e = absurd (true≢false (sym (ap is_export e)))

abbrev IsImport : PlainDue → Bytes → Bool → NodeFocus Ref → Type 0
IsImport due x engine focus = due ≡ DueImport x engine → (namer : Bytes) × (after : NodeAfter) × (focus ≡ NodeAct (PlainImport x namer engine) after)

abbrev is_import : PlainDue → Bool
is_import (DueImport x engine) = true
is_import due = false

abbrev import_name : Bytes → PlainDue → Bytes
import_name other (DueImport x engine) = x
import_name other due = other

abbrev import_kind : Bool → PlainDue → Bool
import_kind other (DueImport x engine) = engine
import_kind other due = other

import_form_in : (op : PlainOperation Ref) (after : NodeAfter) (x : Bytes) (engine : Bool) → IsImport (due_by op) x engine (NodeAct op after)
import_form_in (PlainImport y namer b) after x engine e = (namer, after, ap (λ z. NodeAct (PlainImport z namer b) after) (ap (import_name x) e) ∙ ap (λ z. NodeAct (PlainImport x namer z) after) (ap (import_kind engine) e))
import_form_in op after x engine e = absurd (true≢false (sym (ap is_import e)))

import_form : (focus : NodeFocus Ref) (x : Bytes) (engine : Bool) → IsImport (due_at focus) x engine focus
import_form (NodeAct op after) x engine e = import_form_in op after x engine e
import_form focus x engine e = absurd (true≢false (sym (ap is_import e)))

-- ---- an export

-- what the window that exported is seen as
pub record ExportMeans (parts : List SourceCode) (T : Table Ref) (a : ℕ) (self : Self world.Ref) (w : Shown) (t : Term world.Ref) (x : Bytes) (v : PlainValue Ref) : Type 0 where
  pub around : List (Frame world.Ref)
  pub next : find world.same_ref a self t ≡ Needs (Export x (seen_value T v)) around
  pub complete : IsComplete T v
  pub exported : SeenAs parts T a self (with_focus (NodeValue OkayValue) w) (plug around (Const Okay))

pub export_means : (parts : List SourceCode) (T : Table Ref) → Agrees T (store parts) → (a : ℕ) (self : Self world.Ref) (w : Shown) (t : Term world.Ref) (x : Bytes) (v : PlainValue Ref) → SeenAs parts T a self w t → due_at w.focus ≡ DueExport x v → NoStep (find world.same_ref a self t)
    → ExportMeans parts T a self w t x v
export_means parts T g a self w t x v k due no_step =
    let form = export_form w.focus x v due in
    let at : AtForm parts T a self w t (PlainExport x form.0 v) form.1 = at_form parts T g a self w t (PlainExport x form.0 v) form.1 k form.2 no_step in
    let m : ExportedSeen parts T a self w x form.0 v form.1 at.needed at.around = export_seen parts T g a self w t x form.0 v form.1 at.needed at.around at.form in
    record {
      around = at.around;
      next = at.form.next ∙ ap (λ (o : Operation world.Ref). Needs o at.around) m.operation;
      complete = m.complete;
      exported = m.reads w.focus;
    }

-- ---- an import

-- what it leaves at the focus where the name has this value, and what the window is seen as then
abbrev pub ImportedAs : List SourceCode → Table Ref → ℕ → Self world.Ref → Shown → (engine : Bool) → List (Frame world.Ref) → PlainValue Ref → Type 0
ImportedAs parts T a self w engine around v = (focus : Term world.Ref) × (import_row Ends Idle engine (Some (seen_value T v)) ≡ Ends ActKind.Import None focus) × SeenAs parts T a self (with_focus (imported_focus engine v) w) (plug around focus)

by_value : (parts : List SourceCode) (T : Table Ref) (a : ℕ) (self : Self world.Ref) (w : Shown) (x namer : Bytes) (engine : Bool) (after : NodeAfter) (around : List (Frame world.Ref)) (v : PlainValue Ref)
    → RowSeen parts T a self w (PlainImport x namer engine) after around (import_plain engine (Some v)) (import_row Ends Idle engine (Some (seen_value T v))) → ImportedAs parts T a self w engine around v
by_value parts T a self w x namer false after around v row = (row.0, row.1, row.3 w.focus)
by_value parts T a self w x namer true after around (LocationValue Engine e) row = (row.0, row.1, row.3 w.focus)
by_value parts T a self w x namer true after around v row = (row.0, row.1, row.3 w.focus)

pub record ImportMeans (parts : List SourceCode) (T : Table Ref) (a : ℕ) (self : Self world.Ref) (w : Shown) (t : Term world.Ref) (x : Bytes) (engine : Bool) : Type 0 where
  pub around : List (Frame world.Ref)
  pub next : find world.same_ref a self t ≡ Needs (Import x engine) around
  pub imported : (v : PlainValue Ref) → IsComplete T v → ImportedAs parts T a self w engine around v

pub import_means : (parts : List SourceCode) (T : Table Ref) → Agrees T (store parts) → (a : ℕ) (self : Self world.Ref) (w : Shown) (t : Term world.Ref) (x : Bytes) (engine : Bool) → SeenAs parts T a self w t → due_at w.focus ≡ DueImport x engine → ImportMeans parts T a self w t x engine
import_means parts T g a self w t x engine k due =
    let form = import_form w.focus x engine due in
    let at : AtForm parts T a self w t (PlainImport x form.0 engine) form.1 = import_is_next parts T g a self w t x form.0 engine form.1 k form.2 in
    let m = name_seen parts T g a self w t x form.0 engine form.1 at.needed at.around at.form in
    record {
      around = at.around;
      next = at.form.next ∙ ap (λ (o : Operation world.Ref). Needs o at.around) m.0;
      imported = λ v c. by_value parts T a self w x form.0 engine form.1 at.around v (m.1 (Some v) c);
    }
