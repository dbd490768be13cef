-- A window at its end.
use Rattle.std.specs.Prelude.{List, ℕ, ◌≡◌}
use Rattle.obq_base.specs.declared.code.SourceCode.{SourceCode}
use Rattle.obq_base.specs.declared.places.Ref.{Ref}
use Rattle.obq_model.specs.Step.{Done, Found, Self, Uncaught, find}
use Rattle.obq_model.specs.Terms.{Term}
use Rattle.obq_moves.specs.Store.{same_ref}
use Rattle.obq_moves.specs.Views.{Shown}
use Rattle.obq_answers.specs.Readings.{IsAtEnd}
use Rattle.obq_windows.specs.Complete.{IsComplete}
use Rattle.obq_windows.specs.Values.{Table, read_value}
use Rattle.obq_windows.specs.Windows.{NodeFocus, NodeRaising, NodeValue}

-- what stands next is the value or the raising in the focus
abbrev pub EndIs : Table Ref → Found Ref → NodeFocus Ref → Type 0
EndIs T found (NodeValue v) = (found ≡ Done (read_value T v)) × IsComplete T v
EndIs T found (NodeRaising r) = found ≡ Uncaught r
EndIs T found x = ⊥

abbrev pub EndReads : Type 0
EndReads = (parts : List SourceCode) (T : Table Ref) (a : ℕ) (self : Self Ref) (w : Shown) (t : Term Ref) → IsAtEnd parts T a self w t → EndIs T (find same_ref a self t) w.focus
