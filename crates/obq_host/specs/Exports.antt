-- The exported names of a site, and what imports of them find.
use Rattle.std.specs.Prelude.{Bool, List, None, Option, Some, [], bytes_eq, codes, false, if◌then◌else◌, is_none, not, option_map, true, ℕ, ◌&&◌, ◌∷◌, ◌≡◌}
use Rattle.std.specs.Map.{lookup}
use Rattle.obq_answers.specs.Worlds.{seen_value}
use Rattle.obq_base.specs.declared.places.Ref.{Ref}
use Rattle.obq_base.specs.declared.values.Value.{Value as Held}
use Rattle.obq_except.specs.declared.windows.Window.{Window}
use Rattle.obq_host.specs.Threads.{Refocuses, due_at, sought}
use Rattle.obq_model.specs.Terms.{Bytes, Engine, Value}
use Rattle.obq_moves.specs.Views.{Shown, plain_value}
use Rattle.obq_stands.specs.World as world
use Rattle.obq_windows.specs.Complete.{IsComplete}
use Rattle.obq_windows.specs.Values.{LocationValue, PlainValue, Table}
use Rattle.obq_windows.specs.Windows.{NodeFocus, NodeValue, node_raises}

-- ---- the names that are kept

abbrev pub seen_exports : Table Ref → List (Bytes × Held) → List (Bytes × Value world.Ref)
seen_exports T [] = []
seen_exports T (e ∷ es) = (e.0, seen_value T (plain_value e.1)) ∷ seen_exports T es

abbrev pub CompleteExports : Table Ref → List (Bytes × Held) → Type 0
CompleteExports T [] = Unit {0}
CompleteExports T (e ∷ es) = IsComplete T (plain_value e.1) × CompleteExports T es

-- they read back as these
pub record ExportsRead (T : Table Ref) (names : List (Bytes × Held)) (exports : List (Bytes × Value world.Ref)) : Type 0 where
  pub reads : exports ≡ seen_exports T names
  pub complete : CompleteExports T names

-- the value with this name
abbrev pub value_at : List (Bytes × Held) → Bytes → Option (PlainValue Ref)
value_at names x = option_map plain_value (lookup (bytes_eq x) names)

-- ---- an import

abbrev pub is_engine : PlainValue Ref → Bool
is_engine (LocationValue Engine e) = true
is_engine v = false

-- what it finds where the name has this value; an engine may be wanted
abbrev pub imported_focus : (engine : Bool) → PlainValue Ref → NodeFocus Ref
imported_focus engine v = if engine && not (is_engine v) then node_raises (codes "type") else NodeValue v

-- thread t, whose window showed s, imports a name that has this value, if it is there
abbrev pub Imports : List (Option Window) → ℕ → Shown → (engine : Bool) → Option (PlainValue Ref) → Bool → List (Option Window) → Type 0
Imports old t s engine (Some v) true new = Refocuses old t s (imported_focus engine v) new
Imports old t s engine None false new = new ≡ old
Imports old t s engine found done new = ⊥

-- it waits for a name that isn't there
abbrev pub seeks_in : (Bytes → Option (PlainValue Ref)) → Option Bytes → Bool
seeks_in found None = false
seeks_in found (Some x) = is_none (found x)

abbrev pub seeks_at : (Bytes → Option (PlainValue Ref)) → Option Shown → Bool
seeks_at found None = false
seeks_at found (Some s) = seeks_in found (sought (due_at s.focus))
