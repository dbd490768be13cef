-- What stands next in the term that a window is seen as, where pure steps stop.
use Rattle.std.specs.Prelude.{List, ℕ, ◌≡◌}
use Rattle.obq_base.specs.declared.code.SourceCode.{SourceCode}
use Rattle.obq_base.specs.declared.places.Ref.{Ref}
use Rattle.obq_answers.specs.Worlds.{SeenForm, seen_value}
use Rattle.obq_model.specs.Step.{Done, Found, Frame, Operation, Self, Uncaught}
use Rattle.obq_model.specs.Terms.{Term}
use Rattle.obq_moves.specs.Views.{Shown}
use Rattle.obq_stands.specs.World as world
use Rattle.obq_windows.specs.Complete.{IsComplete}
use Rattle.obq_windows.specs.Trees.{PlainOperation}
use Rattle.obq_windows.specs.Values.{Table}
use Rattle.obq_windows.specs.Windows.{NodeAfter, NodeFocus, NodeRaising, NodeValue}

-- this form is in the focus, and its operation stands next
pub record AtForm (parts : List SourceCode) (T : Table Ref) (a : ℕ) (self : Self world.Ref) (w : Shown) (t : Term world.Ref) (op : PlainOperation Ref) (after : NodeAfter) : Type 0 where
  pub needed : Operation world.Ref
  pub around : List (Frame world.Ref)
  pub form : SeenForm parts T a self w t op after needed around

-- some act's form is
pub record FormNext (parts : List SourceCode) (T : Table Ref) (a : ℕ) (self : Self world.Ref) (w : Shown) (t : Term world.Ref) : Type 0 where
  pub op : PlainOperation Ref
  pub after : NodeAfter
  pub there : AtForm parts T a self w t op after

-- what stands next is the value, or the raising, in the focus
abbrev pub LastIs : Table Ref → Found world.Ref → NodeFocus Ref → Type 0
LastIs T found (NodeValue v) = (found ≡ Done (seen_value T v)) × IsComplete T v
LastIs T found (NodeRaising r) = found ≡ Uncaught r
LastIs T found x = ⊥
