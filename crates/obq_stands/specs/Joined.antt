-- The events of a World with its watches over two sites: what is noted, posted and used up beside each act.
use Rattle.std.specs.Prelude.{Bool, List, Option, Some, None, [], true, false, ◌∷◌, ℕ, nat_lt, slice_get, ◌+◌, ◌<◌, ◌≡◌, ◌⊎◌}
use Rattle.obq_base.specs.declared.acts.ActKind.{ActKind}
use Rattle.obq_base.specs.Tree.{BlockTree}
use Rattle.obq_model.specs.Terms.{Term}
use Rattle.obq_model.specs.Store.{Cell, ConditionCell}
use Rattle.obq_model.specs.Step.{Self, Operation, LineUp, GiveUp, Again, Signal, Broadcast, Frame, plug, Needs, find, self_at}
use Rattle.obq_model.specs.Config.{act}
use Rattle.obq_model.specs.Cells.{again_row, is_free}
use Rattle.obq_model.specs.Effect.{in_line, line_of}
use Rattle.obq_model.specs.Replay.{replay, IsOver}
use Rattle.obq_model.specs.Config.{Config}
use Rattle.obq_laws.specs.Determinism.{entry_of}
use Rattle.obq_stands.specs.World.{at2, Ref, same_ref, Heap, Born, Memory, with_left, Slot, Outcome, Gives, result_of, MayAsk, Packet, Request, Reply, thread_of, Parked, Ending, World, start, post, with_memory, note, Idle, Ends}
use Rattle.obq_stands.specs.World as result
use Rattle.obq_stands.specs.Stands.{IsCall, Does, after_steps, Place, Nowhere, InLine, WaitsAt, Placed, StandsFor}
use Rattle.obq_stands.specs.Events.{moved, answering, Takes, Step, Acted, Serves, Enters, windows, world_at}
use Rattle.obq_stands.specs.Over.{Waits}
use Rattle.obq_stands.specs.Watch.{Asleep, wake, mark, Watch, post_one, no_slots, no_endings, Watched, Slept}

-- all threads of the line of the condition q are woken, in its order
pub data Wakened (q : Ref) : List ℕ → Watch → Watch → Type 0 where
  WokeAll : (e : Watch) → Wakened q [] e e
  WokeOne : (u : ℕ) (us : List ℕ) (o : Ref) (e e2 : Watch) → e.notes q.site u ≡ Some o → Wakened q us (post_one q u o e) e2 → Wakened q (u ∷ us) e e2

-- an operation beside which nothing is noted or posted
abbrev pub IsApart : Operation Ref → Type 0
IsApart (LineUp o c guard) = ⊥
IsApart (GiveUp o c guard) = ⊥
IsApart (Again o c guard) = ⊥
IsApart (Signal c) = ⊥
IsApart (Broadcast c) = ⊥
IsApart op = Unit {0}

-- what becomes of notes and wakes beside an operation of thread t, done at this heap
pub data Beside (h : Heap) (t : ℕ) : Operation Ref → Watch → Watch → Type 0 where
  Apart : (op : Operation Ref) (e : Watch) → IsApart op → Beside h t op e e
  -- the condition's site notes the object
  Notes : (o q : Ref) (guard : Term Ref) (e : Watch) → Beside h t (LineUp o q guard) e (record e { notes = at2 e.notes q.site t (Some o) })
  Frees : (o q : Ref) (guard : Term Ref) (e : Watch) → Beside h t (GiveUp o q guard) e e
  -- at one site no wake is needed
  TakesHome : (o q : Ref) (guard : Term Ref) (e : Watch) → o.site ≡ q.site → Beside h t (Again o q guard) e e
  -- over two sites the noted wake is used up
  TakesNoted : (o q : Ref) (guard : Term Ref) (e : Watch) (k : Parked) → e.noted o.site t ≡ Some k → Beside h t (Again o q guard) e (record e { noted = at2 e.noted o.site t None })
  SignalsNone : (q : Ref) (e : Watch) (y : Born) → h q ≡ Some y → line_of (Some y.cell) ≡ [] → Beside h t (Signal q) e e
  SignalsOne : (q : Ref) (e : Watch) (y : Born) (u : ℕ) (us : List ℕ) (o : Ref) → h q ≡ Some y → line_of (Some y.cell) ≡ u ∷ us → e.notes q.site u ≡ Some o → Beside h t (Signal q) e (post_one q u o e)
  SignalsAll : (q : Ref) (e e2 : Watch) (y : Born) (line : List ℕ) → h q ≡ Some y → y.cell ≡ ConditionCell line → Wakened q line e e2 → Beside h t (Broadcast q) e e2

-- an act where it is done, with what is beside it. An Again over two sites looks at its object and at the noted wake alone, not at the line.
pub data DoesBeside (m : Memory) (en : ℕ → ℕ → Option Ending) (threads : ℕ) (t : ℕ) (s : Self Ref) (e : Watch) : Operation Ref → ActKind → ℕ → Memory → Term Ref → Watch → Type 0 where
  ByStore : (op : Operation Ref) (kind : ActKind) (loc : ℕ) (m2 : Memory) (x : Term Ref) (e2 : Watch) → Does m en threads t s op kind loc m2 x → Beside m.heap t op e e2 → DoesBeside m en threads t s e op kind loc m2 x e2
  ByWake : (o q : Ref) (guard : Term Ref) (x : Born) (kind : ActKind) (left : Option (Cell Ref)) (focus : Term Ref) (k : Parked)
      → m.heap o ≡ Some x → e.noted o.site t ≡ Some k → again_row Ends Idle t false o q guard (Some x.cell) ≡ Ends kind left focus
      → DoesBeside m en threads t s e (Again o q guard) kind x.born (with_left m o x.born left) focus (record e { noted = at2 e.noted o.site t None })

-- an event in which no operation is done: steps, a fork, an end, or a packet alone
abbrev pub HasNoAct : {turns : ℕ} {w x : World} → Step turns w x → Type 0
HasNoAct (Acted w s t n slot u op hs kind loc m x a b c d e) = ⊥
HasNoAct (Serves w w1 a b t k used depth self op kind loc m x o c d e f) = ⊥
HasNoAct (Enters w w1 a b t k used depth self op kind loc m x y c d e f) = ⊥
HasNoAct s = Unit {0}

pub data WatchStep (turns : ℕ) : World → Watch → World → Watch → Type 0 where
  Plain : (w x : World) (e : Watch) (s : Step turns w x) → HasNoAct s → WatchStep turns w e x e
  ActedBeside : (w : World) (e e2 : Watch) (s t n : ℕ) (slot : Slot) (u : Term Ref) (op : Operation Ref) (hs : List (Frame Ref)) (kind : ActKind) (loc : ℕ) (m : Memory) (x : Term Ref)
      → w.running s t ≡ Some slot → slot.used + n < turns → after_steps slot.segment.depth slot.segment.self n slot.segment.window ≡ Some u
      → find same_ref slot.segment.depth slot.segment.self u ≡ Needs op hs → DoesBeside w.memory w.ended w.threads t (self_at slot.segment.self hs) e op kind loc m x e2
      → WatchStep turns w e (note (start (with_memory w m) s t (moved slot (n + 1) (plug hs x))) (entry_of t n (Some (act kind loc)))) e2
  ServesBeside : (w w1 : World) (e e2 : Watch) (a b t k used depth : ℕ) (self : Self Ref) (op : Operation Ref) (kind : ActKind) (loc : ℕ) (m : Memory) (x : Term Ref) (o : Outcome Ref)
      → Takes w a b (Request t k used depth self op) w1 → MayAsk op → DoesBeside w.memory w.ended w.threads t self e op kind loc m x e2 → result_of x ≡ Gives o
      → WatchStep turns w e (note (post (with_memory w1 m) b a (Reply t k (used + 1) o)) (entry_of t 0 (Some (act kind loc)))) e2
  EntersBeside : (w w1 : World) (e e2 : Watch) (a b t k used depth : ℕ) (self : Self Ref) (op : Operation Ref) (kind : ActKind) (loc : ℕ) (m : Memory) (x y : Term Ref)
      → Takes w a b (Request t k used depth self op) w1 → IsCall op → DoesBeside w.memory w.ended w.threads t self e op kind loc m x e2 → result_of x ≡ result.Enters y
      → WatchStep turns w e (note (start (with_memory w1 m) b t (answering a k used depth self y)) (entry_of t 0 (Some (act kind loc)))) e2
  -- a wake arrives, and is noted
  Delivers : (w : World) (e : Watch) (a b : ℕ) (p : Packet) (ps : List Packet) → e.wakes a b ≡ p ∷ ps
      → WatchStep turns w e w (record e { wakes = at2 e.wakes a b ps; noted = at2 e.noted b (thread_of p) (Some (record { from = 0; packet = p })) })

-- the World stands for the replay of its journal, and its notes and wakes are those that the configuration owes
pub record WatchStands (trees : List BlockTree) (turns : ℕ) (w : World) (e : Watch) : Type 0 where
  pub stands : StandsFor trees turns w
  pub place : ℕ → Place
  pub watched : Watched w.memory.heap (λ u. slice_get stands.config.threads u) e place
  pub slept : Slept w.memory.heap (λ u. slice_get stands.config.threads u) place

-- each event keeps it
abbrev pub WatchStepKeeps : Type 0
WatchStepKeeps = (trees : List BlockTree) (turns : ℕ) (w x : World) (e e2 : Watch) → WatchStands trees turns w e → WatchStep turns w e x e2 → WatchStands trees turns x e2

-- each is an event of the World, or leaves it as it is
abbrev pub WatchStepIs : Type 0
WatchStepIs = (trees : List BlockTree) (turns : ℕ) (w x : World) (e e2 : Watch) → WatchStands trees turns w e → WatchStep turns w e x e2 → Step turns w x ⊎ (x ≡ w)

-- where thread u's wake is: nowhere, in a line, or noted
pub data WakeIs (u : ℕ) (o q : Ref) (lined : Bool) : Place → Type 0 where
  StillLined : lined ≡ true → WakeIs u o q lined Nowhere
  OnItsWay : lined ≡ false → WakeIs u o q lined (InLine q.site o.site (wake u o))
  Arrived : lined ≡ false → WakeIs u o q lined (WaitsAt o.site (mark u o))

-- A thread that lined up at a condition of another site than its object's is out of the condition's line exactly where one wake for it, which names
-- that object, is in a line to the object's site or is noted there; and each wake is at its thread's place only.
abbrev pub WakeExactly : Type 0
WakeExactly =
    (trees : List BlockTree) (turns : ℕ) (w : World) (e : Watch) (i : WatchStands trees turns w e) (u : ℕ) (o q : Ref) (y : Born) → Asleep w.memory.heap (slice_get i.stands.config.threads u) o q → (q.site ≡ o.site → ⊥) → w.memory.heap q ≡ Some y
    → WakeIs u o q (in_line u (line_of (Some y.cell))) (i.place u) × Placed no_slots e.noted no_endings e.wakes i.place

-- ---- every list of events

-- no notes and no wakes
abbrev pub no_watch : Watch
no_watch = record { wakes = λ _ _. []; noted = λ _ _. None; notes = λ _ _. None }

pub data WatchRun (turns : ℕ) (w : World) (e : Watch) : World → Watch → Type 0 where
  BeginWatch : WatchRun turns w e w e
  ThenWatch : {v x : World} {d e2 : Watch} → WatchRun turns w e v d → WatchStep turns v d x e2 → WatchRun turns w e x e2

-- at the start
abbrev pub WatchBegins : Type 0
WatchBegins = (trees : List BlockTree) (turns : ℕ) → WatchStands trees turns (world_at (windows 0 trees)) no_watch

-- and behind every list of events
abbrev pub EveryWatchRunStands : Type 0
EveryWatchRunStands = (trees : List BlockTree) (turns : ℕ) (w : World) (e : Watch) → WatchRun turns (world_at (windows 0 trees)) no_watch w e → WatchStands trees turns w e

-- ---- at rest

-- the operation of thread t waits where it is done: for an Again over two sites, no wake is noted there, or the mutex isn't free
pub data WaitsBeside (m : Memory) (en : ℕ → ℕ → Option Ending) (e : Watch) (t : ℕ) (s : Self Ref) : Operation Ref → Type 0 where
  InStore : (op : Operation Ref) → Waits m en t s op → WaitsBeside m en e t s op
  WakeMissing : (o q : Ref) (guard : Term Ref) → (q.site ≡ o.site → ⊥) → e.noted o.site t ≡ None → WaitsBeside m en e t s (Again o q guard)
  NotFree : (o q : Ref) (guard : Term Ref) (x : Born) → m.heap o ≡ Some x → is_free (Some x.cell) ≡ false → WaitsBeside m en e t s (Again o q guard)

abbrev pub HasStoppedBeside : (turns : ℕ) → Memory → (ℕ → ℕ → Option Ending) → Watch → ℕ → Slot → Type 0
HasStoppedBeside turns m en e t slot =
    nat_lt slot.used turns ≡ true → (op : Operation Ref) × (hs : List (Frame Ref)) × (find same_ref slot.segment.depth slot.segment.self slot.segment.window ≡ Needs op hs) × WaitsBeside m en e t (self_at slot.segment.self hs) op

abbrev pub IsStuckBeside : Memory → (ℕ → ℕ → Option Ending) → Watch → Packet → Type 0
IsStuckBeside m en e (Request t k used depth self op) = MayAsk op × WaitsBeside m en e t self op
IsStuckBeside m en e (Reply t k used o) = ⊥

-- no line holds a packet or a wake, and neither a segment nor a waiting request can go
pub record IsIdleBeside (turns : ℕ) (w : World) (e : Watch) : Type 0 where
  pub lines : (a b : ℕ) → w.lines a b ≡ []
  pub wakes : (a b : ℕ) → e.wakes a b ≡ []
  pub runs : (s t : ℕ) (slot : Slot) → w.running s t ≡ Some slot → HasStoppedBeside turns w.memory w.ended e t slot
  pub waits : (s t : ℕ) (x : Parked) → w.waiting s t ≡ Some x → IsStuckBeside w.memory w.ended e x.packet

-- then the journal replays to a configuration that is over
abbrev pub WatchIdleIsOver : Type 0
WatchIdleIsOver = (trees : List BlockTree) (turns : ℕ) (w : World) (e : Watch) → WatchStands trees turns w e → IsIdleBeside turns w e → (c : Config) × (replay trees turns w.journal ≡ Some c) × IsOver turns c
