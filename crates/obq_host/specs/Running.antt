-- What a run of pure steps is, whatever the window is seen as.
use Rattle.std.specs.Prelude.{List, Some, [], ℕ, ◌<◌, ◌≡◌}
use Rattle.obq_base.specs.Tree.{BlockTree}
use Rattle.obq_base.specs.declared.code.CodeNo.{CodeNo}
use Rattle.obq_base.specs.declared.code.SourceCode.{SourceCode}
use Rattle.obq_base.specs.declared.places.Ref.{Ref}
use Rattle.obq_answers.specs.Worlds.{SeenAs}
use Rattle.obq_host.specs.Stops.{FormNext, LastIs}
use Rattle.obq_model.specs.Occurrences.{unbound}
use Rattle.obq_model.specs.Opening.{block_term}
use Rattle.obq_model.specs.Procedures.{main_proc}
use Rattle.obq_model.specs.Step.{Self, find, no_self}
use Rattle.obq_model.specs.Terms.{Term}
use Rattle.obq_moves.specs.Store.{store}
use Rattle.obq_moves.specs.Views.{Shown}
use Rattle.obq_stands.specs.Events.{writer_at}
use Rattle.obq_stands.specs.Stands.{after_steps}
use Rattle.obq_stands.specs.World as world
use Rattle.obq_windows.specs.Agrees.{Agrees}
use Rattle.obq_windows.specs.Values.{Table}
use Rattle.obq_world.specs.declared.machine.Stop.{Stop}
use Rattle.obq_world.specs.declared.machine.Stop.TheVariants as stop

-- what the stop says of the window and its term
abbrev pub StopSays : List SourceCode → Table Ref → ℕ → Self world.Ref → Shown → Term world.Ref → Stop → Type 0
StopSays parts T a self w t stop.Most = Unit {0}
StopSays parts T a self w t stop.Needs = FormNext parts T a self w t
StopSays parts T a self w t stop.Bottom = (w.frames ≡ []) × LastIs T (find world.same_ref a self t) w.focus

-- so many pure steps lead from the one window to the other, and then they stop so, under every table of these codes
pub record RunsSo (parts : List SourceCode) (old : Shown) (n : ℕ) (why : Stop) (new : Shown) : Type 0 where
  pub runs : (T : Table Ref) → Agrees T (store parts) → (a : ℕ) (self : Self world.Ref) (t : Term world.Ref) → SeenAs parts T a self old t → (u : Term world.Ref) × (after_steps a self n t ≡ Some u) × SeenAs parts T a self new u
  pub stops : (T : Table Ref) → Agrees T (store parts) → (a : ℕ) (self : Self world.Ref) (t : Term world.Ref) → SeenAs parts T a self new t → StopSays parts T a self new t why

-- the window is seen as what a source's block opens as, under every table in which this is the code of that block
abbrev pub OpensSo : CodeNo → Shown → Type 0
OpensSo number w =
    (parts : List SourceCode) (T : Table Ref) → Agrees T (store parts) → (source : ℕ) → source < 65536 → (tree : BlockTree) → T.procs number ≡ Some (main_proc source tree) → unbound tree ≡ []
    → SeenAs parts T 0 no_self w (block_term (writer_at source) [] tree)
