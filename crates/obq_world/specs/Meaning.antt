-- What the codes, windows and sites of a machine mean. A machine is not known here: these are words for what it tells of itself.
use Rattle.std.specs.Prelude.{List, Option, Some, [], ℕ, slice_get, ◌≡◌, ◌≤◌}
use Rattle.obq_base.specs.Tree.{BlockTree}
use Rattle.obq_model.specs.Terms.{Bytes, Raised, Value, Term}
use Rattle.obq_model.specs.Step.{Self, no_self, Operation, Frame, Found, Done, Uncaught, find}
use Rattle.obq_model.specs.Step as step
use Rattle.obq_model.specs.Maps.{map_term}
use Rattle.obq_model.specs.Opening.{block_term}
use Rattle.obq_stands.specs.World.{Ref, same_ref, Heap, Ending}
use Rattle.obq_stands.specs.Stands.{after_steps}
use Rattle.obq_stands.specs.Events.{writer_at}
use Rattle.obq_world.specs.declared.lending.Ran.{Ran}
use Rattle.obq_world.specs.declared.machine.Stop.{Stop}
use Rattle.obq_world.specs.declared.machine.Stop.TheVariants as stop

pub record Meaning (C W S : Type 0) : Type 1 where
  -- these are the codes of the program
  pub are_codes : C → Type 0
  -- the window reads back as this term, with so many activations and this current self around it
  pub reads : W → ℕ → Self Ref → Term Ref → Type 0
  -- the site's cells read back as this heap, and how many there are
  pub heap : S → Heap → Type 0
  pub size : S → ℕ
  -- the windows of the threads that run there
  pub windows : S → ℕ → Option W
  -- what is kept there of how a thread ended reads back as this
  pub ended : S → ℕ → Option Ending → Type 0
  -- the exported names that are kept there read back as these
  pub names : S → List (Bytes × Value Ref) → Type 0

abbrev pub IsRunning : {C W S : Type 0} → Meaning C W S → S → ℕ → Type 0
IsRunning {C} {W} m s t = (w : W) × (m.windows s t ≡ Some w)

-- n pure steps lead from the one window to the other, whatever it reads back as
abbrev pub Runs : {C W S : Type 0} → Meaning C W S → W → ℕ → W → Type 0
Runs m old n new = (depth : ℕ) (self : Self Ref) (t : Term Ref) → m.reads old depth self t → (u : Term Ref) × (after_steps depth self n t ≡ Some u) × m.reads new depth self u

-- the form of an act stands next
abbrev pub NeedsAct : Found Ref → Type 0
NeedsAct f = (op : Operation Ref) × (hs : List (Frame Ref)) × (f ≡ step.Needs op hs)

-- nothing stands next: a value, or what goes up
pub data IsBottom : Found Ref → Type 0 where
  ByValue : (v : Value Ref) → IsBottom (Done v)
  ByRaising : (r : Raised) → IsBottom (Uncaught r)

abbrev pub Says : Stop → Found Ref → Type 0
Says stop.Most f = Unit {0}
Says stop.Needs f = NeedsAct f
Says stop.Bottom f = IsBottom f

abbrev pub StopsAs : {C W S : Type 0} → Meaning C W S → Stop → W → Type 0
StopsAs m why w = (depth : ℕ) (self : Self Ref) (u : Term Ref) → m.reads w depth self u → Says why (find same_ref depth self u)

-- the window behind at most so many pure steps of this one
pub record IsRan {C W S : Type 0} (m : Meaning C W S) (old : W) (most : ℕ) (ran : Ran W) : Type 0 where
  pub few : ran.steps ≤ most
  pub runs : Runs m old ran.steps ran.window
  pub stops : StopsAs m ran.stop ran.window

-- the window in which block k of these begins
abbrev pub Opens : {C W S : Type 0} → Meaning C W S → List BlockTree → ℕ → W → Type 0
Opens m blocks k w =
    (tree : BlockTree) → slice_get blocks k ≡ Some tree
    → (x : Term Ref) × m.reads w 0 no_self x × ((f : Ref → ℕ) → f (writer_at k) ≡ k → map_term f x ≡ block_term k [] tree)
