-- What a site does for threads that run, end, fork, join, export and import, told of what its windows show.
use Rattle.std.specs.Prelude.{Bool, List, None, Option, Some, [], false, is_none, true, ℕ, ◌∷◌, ◌≡◌, ◌≤◌}
use Rattle.obq_base.specs.declared.acts.ActKind.{ActKind}
use Rattle.obq_base.specs.declared.code.SourceCode.{SourceCode}
use Rattle.obq_base.specs.declared.limits.TheConstants.{THREAD_LIMIT}
use Rattle.obq_base.specs.declared.places.Ref.{Ref}
use Rattle.obq_except.specs.declared.windows.Window.{Window}
use Rattle.obq_base.specs.declared.places.Kind.{Kind}
use Rattle.obq_base.specs.declared.values.Value.{Value as Held}
use Rattle.obq_heap.specs.Heap.{Heap}
use Rattle.obq_heap.specs.Names.{put}
use Rattle.obq_heap.specs.declared.cells.Cell.{Cell}
use Rattle.obq_host.specs.Endings.{PlainEnding, PlainFailed, PlainReturned, ending_of, kept_at, plain_ending}
use Rattle.obq_host.specs.Exports.{Imports, value_at}
use Rattle.obq_host.specs.Places.{IsWith, at_place}
use Rattle.obq_host.specs.Running.{RunsSo}
use Rattle.obq_host.specs.Threads.{DueElse, DueExport, DueFork, DueImport, DueJoin, Forks, Joins, Refocuses, awaited, due_at}
use Rattle.obq_host.specs.declared.host.Ending.{Ending}
use Rattle.obq_host.specs.declared.host.Host.{Host}
use Rattle.obq_model.specs.Config.{act}
use Rattle.obq_model.specs.Terms.{Bytes}
use Rattle.obq_moves.specs.Views.{Shown, plain_value, shown}
use Rattle.obq_windows.specs.Values.{OkayValue, PlainValue}
use Rattle.obq_windows.specs.Windows.{NodeValue}
use Rattle.obq_world.specs.declared.machine.HowEnded.{HowEnded}
use Rattle.obq_world.specs.declared.machine.HowEnded.TheVariants as how
use Rattle.obq_world.specs.declared.machine.Made.{Made}
use Rattle.obq_world.specs.declared.machine.Slice.{Slice}
use Rattle.obq_world.specs.declared.machine.Tried.{Tried}
use Rattle.obq_world.specs.declared.machine.Tried.TheVariants as tried

-- this holds of the window of thread t
abbrev pub InPlace : List (Option Window) → ℕ → (Shown → Type 0) → Type 0
InPlace windows t P = (w : Window) → at_place windows t ≡ Some w → P (shown w)

abbrev pub OfWindow : Host → ℕ → (Shown → Type 0) → Type 0
OfWindow s t P = InPlace s.windows.items t P

-- it has one here
abbrev pub IsRunningHere : Host → ℕ → Type 0
IsRunningHere s t = (w : Window) × (at_place s.windows.items t ≡ Some w)

-- all but the windows is as it was
pub record SameElse (old new : Host) : Type 0 where
  pub endings : new.endings ≡ old.endings
  pub names : new.names ≡ old.names
  pub heap : new.heap ≡ old.heap

-- ---- ends, forks, joins, exports and imports

pub record EndsHere (old : Host) (t : ℕ) (new : Host) : Type 0 where
  pub ending : Ending
  pub ends : OfWindow old t (λ s. Some (plain_ending ending) ≡ ending_of s)
  pub windows : IsWith old.windows.items t None new.windows.items
  pub endings : IsWith old.endings.items t (Some ending) new.endings.items
  pub names : new.names ≡ old.names
  pub heap : new.heap ≡ old.heap

pub record ForksHere (old : Host) (t : ℕ) (f : PlainValue Ref) (threads : ℕ) (made : Bool) (new : Host) : Type 0 where
  pub windows : OfWindow old t (λ s. Forks old.windows.items t s f threads made new.windows.items)
  pub same : SameElse old new

pub record JoinsHere (old : Host) (t v : ℕ) (done : Bool) (new : Host) : Type 0 where
  pub windows : OfWindow old t (λ s. Joins old.windows.items t s (kept_at old.endings.items v) done new.windows.items)
  pub same : SameElse old new

pub record ExportsHere (old : Host) (t : ℕ) (x : Bytes) (v : Held) (new : Host) : Type 0 where
  pub windows : OfWindow old t (λ s. Refocuses old.windows.items t s (NodeValue OkayValue) new.windows.items)
  pub names : new.names ≡ put x v old.names
  pub endings : new.endings ≡ old.endings
  pub heap : new.heap ≡ old.heap

pub record ImportsHere (old : Host) (t : ℕ) (x : Bytes) (engine done : Bool) (new : Host) : Type 0 where
  pub windows : OfWindow old t (λ s. Imports old.windows.items t s engine (value_at old.names x) done new.windows.items)
  pub same : SameElse old new

-- what comes of the act that is due in the window of thread t, where so many threads were made before it
pub data ActsOnThreads (old : Host) (t threads : ℕ) (new : Host) : Tried → Type 0 where
  HasEnded : EndsHere old t new → ActsOnThreads old t threads new (tried.Did (act ActKind.End t) Made.Nothing)
  HasForked : (f : PlainValue Ref) → OfWindow old t (λ s. due_at s.focus ≡ DueFork f) → ForksHere old t f threads true new → ActsOnThreads old t threads new (tried.Did (act ActKind.Fork threads) Made.Thread)
  HasNoRoom : (f : PlainValue Ref) → OfWindow old t (λ s. due_at s.focus ≡ DueFork f) → ForksHere old t f threads false new → ActsOnThreads old t threads new (tried.Did (act ActKind.Fork THREAD_LIMIT) Made.Nothing)
  HasJoined : (v : ℕ) → OfWindow old t (λ s. due_at s.focus ≡ DueJoin v) → JoinsHere old t v true new → ActsOnThreads old t threads new (tried.Did (act ActKind.Join v) Made.Nothing)
  IsWaiting : (v : ℕ) → OfWindow old t (λ s. due_at s.focus ≡ DueJoin v) → JoinsHere old t v false new → ActsOnThreads old t threads new tried.Waits
  HasExported : (x : Bytes) (v : Held) → OfWindow old t (λ s. due_at s.focus ≡ DueExport x (plain_value v)) → ExportsHere old t x v new → ActsOnThreads old t threads new (tried.Did (act ActKind.Export 0) Made.Nothing)
  HasImported : (x : Bytes) (engine : Bool) → OfWindow old t (λ s. due_at s.focus ≡ DueImport x engine) → ImportsHere old t x engine true new → ActsOnThreads old t threads new (tried.Did (act ActKind.Import 0) Made.Nothing)
  IsSeeking : (x : Bytes) (engine : Bool) → OfWindow old t (λ s. due_at s.focus ≡ DueImport x engine) → ImportsHere old t x engine false new → ActsOnThreads old t threads new tried.Waits

-- where the act is none of these, nothing is done
abbrev pub ComesOf : Host → (t threads : ℕ) → Option Tried → Host → Type 0
ComesOf old t threads (Some tried) new = ActsOnThreads old t threads new tried
ComesOf old t threads None new = (new ≡ old) × OfWindow old t (λ s. due_at s.focus ≡ DueElse)

-- it waits for the end of a thread of which nothing is kept
abbrev pub awaits_in : (ℕ → Option PlainEnding) → Option ℕ → Bool
awaits_in kept None = false
awaits_in kept (Some v) = is_none (kept v)

abbrev pub awaits_at : (ℕ → Option PlainEnding) → Option Shown → Bool
awaits_at kept None = false
awaits_at kept (Some s) = awaits_in kept (awaited (due_at s.focus))

-- ---- pure steps

pub record RunsHere (parts : List SourceCode) (old : Host) (t most : ℕ) (slice : Slice) (new : Host) : Type 0 where
  pub few : slice.steps ≤ most
  pub window : Window
  pub runs : OfWindow old t (λ s. RunsSo parts s slice.steps slice.stop (shown window))
  pub windows : IsWith old.windows.items t (Some window) new.windows.items
  pub same : SameElse old new

-- ---- what a site tells, and how it begins

abbrev pub how_of : PlainEnding → HowEnded
how_of (PlainReturned v) = how.ByValue
how_of (PlainFailed text) = how.ByException

abbrev pub text_in : Option Cell → Bytes
text_in (Some (Cell.Writer bytes)) = bytes
text_in cell = []

-- the site's writer, which is its first cell
abbrev pub the_writer : Ref
the_writer = record { site = record { 0 = 0 }; n = 0; kind = Kind.Writer }

abbrev pub first_heap : Heap
first_heap = record { site = record { 0 = 0 }; cells = record { cell = Cell.Writer []; born = 0 } ∷ [] }

pub record IsBegun (w : Window) (s : Host) : Type 0 where
  pub heap : s.heap ≡ first_heap
  pub windows : s.windows.items ≡ Some w ∷ []
  pub endings : s.endings.items ≡ []
  pub names : s.names ≡ []
