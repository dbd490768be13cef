-- What is due in a window, forks and joins, told of what windows show.
use Rattle.std.specs.Prelude.{Bool, List, None, Option, Some, [], codes, false, if◌then◌else◌, nat_le, option_map, true, ℕ, ◌≡◌}
use Rattle.obq_answers.specs.Beginnings.{Around, called_shown}
use Rattle.obq_answers.specs.Forms.{with_focus}
use Rattle.obq_base.specs.declared.limits.TheConstants.{THREAD_LIMIT}
use Rattle.obq_base.specs.declared.places.Ref.{Ref}
use Rattle.obq_except.specs.declared.windows.Window.{Window}
use Rattle.obq_host.specs.Endings.{PlainEnding, PlainFailed, PlainReturned}
use Rattle.obq_host.specs.Places.{IsWith, IsWithTwo}
use Rattle.obq_host.specs.declared.threads.Due.{Due}
use Rattle.obq_host.specs.declared.threads.Due.TheVariants as d
use Rattle.obq_model.specs.Step.{no_self}
use Rattle.obq_model.specs.Terms.{Bytes}
use Rattle.obq_moves.specs.Views.{Shown, plain_value, shown}
use Rattle.obq_windows.specs.Trees.{PlainExport, PlainForkOff, PlainImport, PlainJoin, PlainOperation}
use Rattle.obq_windows.specs.Values.{PlainValue, ThreadValue}
use Rattle.obq_windows.specs.Windows.{NodeAct, NodeFocus, NodeValue, node_raises}

-- ---- what is due in a window

pub data PlainDue : Type 0 where
  DueFork : PlainValue Ref → PlainDue
  DueJoin : ℕ → PlainDue
  DueExport : (name : Bytes) → PlainValue Ref → PlainDue
  DueImport : (name : Bytes) → (engine : Bool) → PlainDue
  DueElse : PlainDue  -- any other act
  DueEnd : PlainDue

abbrev pub plain_due : Due → PlainDue
plain_due (d.Fork procedure) = DueFork (plain_value procedure)
plain_due (d.Join thread) = DueJoin thread.0
plain_due (d.Export name value) = DueExport name (plain_value value)
plain_due (d.Import name engine) = DueImport name engine
plain_due d.Act = DueElse
plain_due d.End = DueEnd

abbrev pub due_by : PlainOperation Ref → PlainDue
due_by (PlainForkOff f) = DueFork f
due_by (PlainJoin thread) = DueJoin thread
due_by (PlainExport x namer v) = DueExport x v
due_by (PlainImport x namer engine) = DueImport x engine
due_by op = DueElse

abbrev pub due_at : NodeFocus Ref → PlainDue
due_at (NodeAct op after) = due_by op
due_at x = DueEnd

-- the thread whose end is waited for
abbrev pub awaited : PlainDue → Option ℕ
awaited (DueJoin thread) = Some thread
awaited due = None

-- the name that is imported
abbrev pub sought : PlainDue → Option Bytes
sought (DueImport x engine) = Some x
sought due = None

-- ---- a fork, before which there were so many threads

-- what lies around the window of the new thread
abbrev pub around_thread : ℕ → Around
around_thread thread = record { activations = 0; current = no_self; thread = thread; closures = 0 }

-- what the thread that forks finds, and the window of the new thread
abbrev pub forked_focus : (threads : ℕ) → NodeFocus Ref
forked_focus threads = if nat_le THREAD_LIMIT threads then node_raises (codes "fork_limit") else NodeValue (ThreadValue threads)

abbrev pub forked_window : (threads : ℕ) → PlainValue Ref → Option Shown
forked_window threads f = if nat_le THREAD_LIMIT threads then None else Some (called_shown f [] (around_thread threads))

-- what a window that showed s and the new window show behind the fork
pub record IsForked (s : Shown) (f : PlainValue Ref) (threads : ℕ) (asker : Shown) (begun : Option Shown) : Type 0 where
  pub asker_is : asker ≡ with_focus (forked_focus threads) s
  pub begun_is : begun ≡ forked_window threads f

-- thread t, whose window showed s, forks off a thread that begins with f: whether there is a thread more, and the windows behind it
pub record Forks (old : List (Option Window)) (t : ℕ) (s : Shown) (f : PlainValue Ref) (threads : ℕ) (made : Bool) (new : List (Option Window)) : Type 0 where
  pub window : Window
  pub begun : Option Window
  pub is : IsForked s f threads (shown window) (option_map shown begun)
  pub windows : IsWithTwo old t window threads begun made new

-- ---- another focus

-- thread t, whose window showed s, has this in its focus
pub record Refocuses (old : List (Option Window)) (t : ℕ) (s : Shown) (x : NodeFocus Ref) (new : List (Option Window)) : Type 0 where
  pub window : Window
  pub is : shown window ≡ with_focus x s
  pub windows : IsWith old t (Some window) new

-- ---- a join of a thread whose ending is kept

abbrev pub joined_focus : PlainEnding → NodeFocus Ref
joined_focus (PlainReturned v) = NodeValue v
joined_focus (PlainFailed text) = node_raises text

-- thread t, whose window showed s, joins a thread of which this is kept
abbrev pub Joins : List (Option Window) → ℕ → Shown → Option PlainEnding → Bool → List (Option Window) → Type 0
Joins old t s (Some kept) true new = Refocuses old t s (joined_focus kept) new
Joins old t s None false new = new ≡ old
Joins old t s kept done new = ⊥
