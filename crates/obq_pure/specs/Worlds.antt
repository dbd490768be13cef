-- What runs of pure steps are for a World of several heaps, over its own references.
use Rattle.std.specs.Prelude.{List, Some, [], ℕ, ◌<◌, ◌≡◌}
use Rattle.obq_base.specs.Tree.{BlockTree}
use Rattle.obq_base.specs.declared.code.CodeNo.{CodeNo}
use Rattle.obq_base.specs.declared.code.SourceCode.{SourceCode}
use Rattle.obq_base.specs.declared.places.Ref.{Ref}
use Rattle.obq_model.specs.Occurrences.{unbound}
use Rattle.obq_model.specs.Opening.{block_term}
use Rattle.obq_model.specs.Procedures.{main_proc}
use Rattle.obq_model.specs.Step.{Done, Found, Frame, Operation, Self, Uncaught, find, no_self}
use Rattle.obq_model.specs.Terms.{Term}
use Rattle.obq_moves.specs.Store.{store}
use Rattle.obq_moves.specs.Views.{Shown}
use Rattle.obq_answers.specs.Worlds.{SeenAs, SeenForm, seen_value}
use Rattle.obq_pure.specs.Opening.{opened}
use Rattle.obq_pure.specs.Steps.{Ran}
use Rattle.obq_pure.specs.declared.steps.Stop.{Stop}
use Rattle.obq_pure.specs.declared.steps.Stop.TheVariants as s
use Rattle.obq_stands.specs.Events.{writer_at}
use Rattle.obq_stands.specs.Stands.{after_steps}
use Rattle.obq_stands.specs.World as world
use Rattle.obq_windows.specs.Agrees.{Agrees}
use Rattle.obq_windows.specs.Complete.{IsComplete}
use Rattle.obq_windows.specs.Trees.{PlainOperation}
use Rattle.obq_windows.specs.Values.{Table}
use Rattle.obq_windows.specs.Windows.{NodeAfter, NodeFocus, NodeRaising, NodeValue}

-- so many pure steps lead from the one window to the other, whatever the first is seen as
abbrev pub RunSeen : Type 0
RunSeen =
    (parts : List SourceCode) (T : Table Ref) → Agrees T (store parts) → (old new : Shown) (n : ℕ) (stop : Stop) → Ran parts old n stop new
    → (a : ℕ) (self : Self world.Ref) (t : Term world.Ref) → SeenAs parts T a self old t → (u : Term world.Ref) × (after_steps a self n t ≡ Some u) × SeenAs parts T a self new u

-- an act's form is in the focus, and its operation stands next
pub record FormNext (parts : List SourceCode) (T : Table Ref) (a : ℕ) (self : Self world.Ref) (w : Shown) (t : Term world.Ref) : Type 0 where
  pub op : PlainOperation Ref
  pub after : NodeAfter
  pub needed : Operation world.Ref
  pub around : List (Frame world.Ref)
  pub form : SeenForm parts T a self w t op after needed around

-- what stands next is the value, or the raising, in the focus
abbrev pub LastIs : Table Ref → Found world.Ref → NodeFocus Ref → Type 0
LastIs T found (NodeValue v) = (found ≡ Done (seen_value T v)) × IsComplete T v
LastIs T found (NodeRaising r) = found ≡ Uncaught r
LastIs T found x = ⊥

abbrev pub StopSays : List SourceCode → Table Ref → ℕ → Self world.Ref → Shown → Term world.Ref → Stop → Type 0
StopSays parts T a self w t s.Most = Unit {0}
StopSays parts T a self w t s.Needs = FormNext parts T a self w t
StopSays parts T a self w t s.Bottom = (w.frames ≡ []) × LastIs T (find world.same_ref a self t) w.focus

-- the stop of a run says what stands next, whatever the window behind it is seen as
abbrev pub StopSeen : Type 0
StopSeen =
    (parts : List SourceCode) (T : Table Ref) → Agrees T (store parts) → (old new : Shown) (n : ℕ) (stop : Stop) → Ran parts old n stop new
    → (a : ℕ) (self : Self world.Ref) (t : Term world.Ref) → SeenAs parts T a self new t → StopSays parts T a self new t stop

-- the window of a source's block is seen as what the block opens as at its site
abbrev pub MainSeen : Type 0
MainSeen =
    (parts : List SourceCode) (T : Table Ref) → Agrees T (store parts) → (source : ℕ) → source < 65536 → (number : CodeNo) (tree : BlockTree) → T.procs number ≡ Some (main_proc source tree) → unbound tree ≡ []
    → (thread : ℕ) → SeenAs parts T 0 no_self (opened number thread) (block_term (writer_at source) [] tree)
