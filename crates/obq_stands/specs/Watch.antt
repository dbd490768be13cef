-- Watches over two sites: notes at a condition's site, wakes in lines of their own, and noted wakes at an object's site.
use Rattle.std.specs.Prelude.{List, Option, Some, None, [], true, false, ◌∷◌, ◌++◌, ℕ, ◌==◌, ◌≡◌, ◌⊎◌, if◌then◌else◌}
use Rattle.obq_base.specs.declared.acts.ActKind.{ActKind}
use Rattle.obq_model.specs.Terms.{Term}
use Rattle.obq_model.specs.Store.{ConditionCell, same_loc}
use Rattle.obq_model.specs.Step.{Self, no_self, Operation, New, Get, LineUp, GiveUp, Again, Signal, Broadcast, Frame, Needs, find}
use Rattle.obq_model.specs.Config.{Running, ThreadState}
use Rattle.obq_model.specs.Effect.{in_line, line_of}
use Rattle.obq_stands.specs.World.{at2, Ref, Born, Heap, with_ref, Memory, Slot, Packet, Request, Parked, Ending}
use Rattle.obq_stands.specs.Over.{Waits}
use Rattle.obq_stands.specs.Stands.{Agrees, Does, Place, Nowhere, InLine, WaitsAt, Placed}

-- the object and the condition of a watch in phase Lined or Out
abbrev pub sleep_of : {R : Type 0} → Operation R → Option (R × R)
sleep_of (GiveUp o c guard) = Some (o, c)
sleep_of (Again o c guard) = Some (o, c)
sleep_of op = None

pub record Sleeps (state : Option ThreadState) (o q : ℕ) : Type 0 where
  pub term : Term ℕ
  pub used : ℕ
  pub op : Operation ℕ
  pub frames : List (Frame ℕ)
  pub here : state ≡ Some (record { execution = Running term; used = used })
  pub found : find same_loc 0 no_self term ≡ Needs op frames
  pub is : sleep_of op ≡ Some (o, q)

-- the thread is in phase Lined or Out for the object o at the condition q
abbrev pub Asleep : Heap → Option ThreadState → Ref → Ref → Type 0
Asleep h state o q = (f : Ref → ℕ) → Agrees f h → Sleeps state (f o) (f q)

-- the wake of thread u for the mutex of o, and its note where it arrived
abbrev pub wake : ℕ → Ref → Packet
wake u o = Request u 0 0 0 no_self (Get o [])

abbrev pub mark : ℕ → Ref → Parked
mark u o = record { from = 0; packet = wake u o }

pub record Watch : Type 0 where
  pub wakes : ℕ → ℕ → List Packet  -- from a condition's site, to an object's
  pub noted : ℕ → ℕ → Option Parked  -- object's site, thread
  pub notes : ℕ → ℕ → Option Ref  -- condition's site, thread: the object whose mutex it gives up

-- Each thread in a condition's line is there once and sleeps at that condition, and its note names the object whose mutex it gives up.
abbrev pub LineFits : Heap → (ℕ → Option ThreadState) → (ℕ → Option Ref) → Ref → List ℕ → Type 0
LineFits h states notes r [] = Unit {0}
LineFits h states notes r (u ∷ us) = (o : Ref) × (notes u ≡ Some o) × Asleep h (states u) o r × (in_line u us ≡ false) × LineFits h states notes r us

-- the wake of thread u, where the object is at another site than the condition
abbrev pub post_one : Ref → ℕ → Ref → Watch → Watch
post_one q u o x = if q.site == o.site then x else record x { wakes = at2 x.wakes q.site o.site (x.wakes q.site o.site ++ wake u o ∷ []) }

-- thread u is out of the line of a condition of site a, for an object o of site b
pub record OutOf (h : Heap) (state : Option ThreadState) (u : ℕ) (o : Ref) (a b : ℕ) : Type 0 where
  pub condition : Ref
  pub cell : Born
  pub from : condition.site ≡ a
  pub to : o.site ≡ b
  pub here : h condition ≡ Some cell
  pub out : in_line u (line_of (Some cell.cell)) ≡ false
  pub asleep : Asleep h state o condition

-- Where a wake for a thread is in a line or noted, it names the object that the thread sleeps for, at that object's site, and the thread is out of the
-- line of its condition, which is at another site. No wake is anywhere else. What is done rests on this half.
abbrev pub Owed : Heap → Option ThreadState → ℕ → Place → Type 0
Owed h state u Nowhere = Unit {0}
Owed h state u (InLine a b p) = (o : Ref) × (p ≡ wake u o) × (a ≡ b → ⊥) × OutOf h state u o a b
Owed h state u (WaitsAt b k) = (o : Ref) × (k ≡ mark u o) × (a : ℕ) × (a ≡ b → ⊥) × OutOf h state u o a b
Owed h state u x = ⊥

abbrev pub no_slots : ℕ → ℕ → Option Slot
no_slots s t = None

abbrev pub no_endings : ℕ → ℕ → Option Ending
no_endings s t = None

pub record Watched (h : Heap) (states : ℕ → Option ThreadState) (x : Watch) (place : ℕ → Place) : Type 0 where
  pub lines : (r : Ref) (y : Born) → h r ≡ Some y → LineFits h states (x.notes r.site) r (line_of (Some y.cell))
  pub placed : Placed no_slots x.noted no_endings x.wakes place
  pub owed : (u : ℕ) → Owed h (states u) u (place u)

-- the other half: which threads are asleep, each since its Line; one that has no wake, over two sites, is in the line
pub record Slept (h : Heap) (states : ℕ → Option ThreadState) (place : ℕ → Place) : Type 0 where
  pub sleep : ℕ → Option (Ref × Ref)
  pub asleep : (u : ℕ) (o q : Ref) → sleep u ≡ Some (o, q) → Asleep h (states u) o q
  pub awake : (u : ℕ) → sleep u ≡ None → (a b : ℕ) → Sleeps (states u) a b → ⊥
  pub there : (u : ℕ) (o q : Ref) → sleep u ≡ Some (o, q) → (y : Born) × (h q ≡ Some y)
  pub lined : (u : ℕ) (o q : Ref) (y : Born) → sleep u ≡ Some (o, q) → (q.site ≡ o.site → ⊥) → place u ≡ Nowhere → h q ≡ Some y → in_line u (line_of (Some y.cell)) ≡ true

-- a condition's cell with this line
abbrev pub with_line_at : Heap → Ref → ℕ → List ℕ → Heap
with_line_at h q born line = with_ref h q (Some (record { born = born; cell = ConditionCell line }))

-- the lines of conditions are as they were; other cells may change, and cells without a line may be new
pub record SameLines (h h2 : Heap) : Type 0 where
  pub later : (f : Ref → ℕ) → Agrees f h2 → Agrees f h
  pub kept : (r : Ref) (y : Born) → h r ≡ Some y → (y2 : Born) × (h2 r ≡ Some y2) × (line_of (Some y2.cell) ≡ line_of (Some y.cell))
  pub lines : (r : Ref) (y2 : Born) → h2 r ≡ Some y2 → (line_of (Some y2.cell) ≡ []) ⊎ ((y : Born) × (h r ≡ Some y) × (line_of (Some y2.cell) ≡ line_of (Some y.cell)))

-- an operation by which no line changes; a new condition has no line
abbrev pub KeepsLines : Operation Ref → Type 0
KeepsLines (New cell after) = line_of (Some cell) ≡ []
KeepsLines (LineUp o q guard) = ⊥
KeepsLines (Signal q) = ⊥
KeepsLines (Broadcast q) = ⊥
KeepsLines op = Unit {0}

-- an act of such an operation leaves all lines
abbrev pub ActKeepsLines : Type 0
ActKeepsLines =
    (m : Memory) (en : ℕ → ℕ → Option Ending) (threads t : ℕ) (s : Self Ref) (op : Operation Ref) (kind : ActKind) (loc : ℕ) (m2 : Memory) (x : Term Ref) → KeepsLines op → Does m en threads t s op kind loc m2 x → SameLines m.heap m2.heap

-- where a wake of thread u is noted, u is out of the line that its Again looks at: the row of the object alone is that of the store
abbrev pub NotedIsOut : Type 0
NotedIsOut =
    (h : Heap) (f : Ref → ℕ) → Agrees f h → (states : ℕ → Option ThreadState) (x : Watch) (place : ℕ → Place) (b u : ℕ) (k : Parked) (o q : Ref) (y : Born) → Watched h states x place
    → x.noted b u ≡ Some k → Asleep h (states u) o q → h q ≡ Some y → (in_line u (line_of (Some y.cell)) ≡ false) × (k ≡ mark u o) × (o.site ≡ b)

-- where no wake is in a line and none is noted, an Again over two sites waits in the store too
abbrev pub QuietWaits : Type 0
QuietWaits =
    (m : Memory) (f : Ref → ℕ) → Agrees f m.heap → (en : ℕ → ℕ → Option Ending) (states : ℕ → Option ThreadState) (x : Watch) (place : ℕ → Place) (u : ℕ) (s : Self Ref) (o q : Ref) (guard : Term Ref) (z y : Born)
    → Watched m.heap states x place → Slept m.heap states place → Asleep m.heap (states u) o q → (q.site ≡ o.site → ⊥) → ((a b : ℕ) → x.wakes a b ≡ []) → x.noted o.site u ≡ None → m.heap o ≡ Some z → m.heap q ≡ Some y
    → Waits m en u s (Again o q guard)
