-- What windows that begin read back as.
use Rattle.std.specs.Prelude.{List, ◌∷◌}
use Rattle.obq_base.specs.declared.code.SourceCode.{SourceCode}
use Rattle.obq_base.specs.declared.places.Ref.{Ref}
use Rattle.obq_model.specs.Step.{body_with, values_before}
use Rattle.obq_model.specs.Terms.{Call, Called, End, Form, Loc, Mode, Object, Part, Within}
use Rattle.obq_moves.specs.Store.{store}
use Rattle.obq_answers.specs.Beginnings.{Around, called_shown, engine_shown, method_shown}
use Rattle.obq_answers.specs.Readings.{ReadsAs}
use Rattle.obq_windows.specs.Acts.{Takes}
use Rattle.obq_windows.specs.Agrees.{Agrees}
use Rattle.obq_windows.specs.Complete.{AllComplete, IsComplete}
use Rattle.obq_windows.specs.Values.{LocationValue, PlainValue, Table, read_all, read_value}

-- The window of a call of this closure, of its body as an engine's, and of its body as a method: each with the activations and the current self that are given, around
-- which the first activation begins.
pub record BegunReads (parts : List SourceCode) (T : Table Ref) (f : PlainValue Ref) (vs : List (PlainValue Ref)) (outside : Around) : Type 0 where
  pub called : Takes T f vs → ReadsAs parts T outside.activations outside.current (called_shown f vs outside) (Form Call (values_before (read_value T f ∷ read_all T vs) End))
  pub engine : Takes T f vs → ReadsAs parts T outside.activations outside.current (engine_shown f vs outside) (Form Called (Part (body_with (read_value T f) (read_all T vs)) End))
  pub method : (o : Ref) (m : Mode) → Takes T f (LocationValue Object o ∷ vs)
      → ReadsAs parts T outside.activations outside.current (method_shown o m f vs outside) (Form (Within o m) (Part (body_with (read_value T f) (Loc Object o ∷ read_all T vs)) End))

abbrev pub FirstReads : Type 0
FirstReads = (parts : List SourceCode) (T : Table Ref) → Agrees T (store parts) → (f : PlainValue Ref) → IsComplete T f → (vs : List (PlainValue Ref)) → AllComplete T vs → (outside : Around) → BegunReads parts T f vs outside
