-- The events of a World, and that each list of them keeps what the World stands for.
use Rattle.std.specs.Prelude.{List, Option, Some, None, [], false, ◌∷◌, ◌++◌, ℕ, suc, length, nat_lt, option_map, slice_get, if◌then◌else◌, ◌+◌, ◌<◌, ◌≤◌, ◌==◌, ◌&&◌, ◌≡◌, ◌⊎◌, nat_le}
use Rattle.obq_base.specs.declared.acts.ActKind.{ActKind}
use Rattle.obq_base.specs.declared.acts.Entry.{Entry}
use Rattle.obq_base.specs.Tree.{BlockTree}
use Rattle.obq_model.specs.Terms.{Exn, ExitUp, Writer, Value, Thread, Call, Term, Const, Form, Part, End}
use Rattle.obq_model.specs.Exceptions.{exit_outside, raising}
use Rattle.obq_model.specs.Store.{WriterCell}
use Rattle.obq_model.specs.Step.{Self, no_self, Operation, ForkOff, Again, Frame, plug, Found, Next, Needs, Done, Uncaught, find, self_at, activations_at}
use Rattle.obq_model.specs.Config.{Config, act}
use Rattle.obq_model.specs.Maps.{map_term}
use Rattle.obq_model.specs.Opening.{block_term}
use Rattle.obq_laws.specs.Determinism.{entry_of}
use Rattle.obq_stands.specs.World.{with_at, Born, Ref, same_ref, Heap, Memory, PendingCall, Segment, Slot, Suspended, Outcome, Answer, RaisedUp, Gives, wire, answer_term, result_of, MayAsk, Packet, Request, Reply, thread_of, Parked, Ending, ByValue, ByException, World, without, start, settle, post, with_line, park, pend, with_memory, one_thread_more, note}
use Rattle.obq_stands.specs.World as result
use Rattle.obq_stands.specs.Stands.{IsCall, Does, after_steps, Stands, StandsFor}
use Rattle.obq_model.specs.OneCell.{cell_of}
use Rattle.obq_base.specs.declared.limits.TheConstants.{THREAD_LIMIT}

-- a segment with another window, and a slot that has used n more turns
abbrev pub with_window : Segment → Term Ref → Segment
with_window seg x = record seg { window = x }

abbrev pub moved : Slot → ℕ → Term Ref → Slot
moved slot n x = record { segment = with_window slot.segment x; used = slot.used + n }

-- a thread that begins with a call of v
abbrev pub calling : Value Ref → Slot
calling v = record { segment = record { window = Form Call (Part (Const v) End); depth = 0; self = no_self; answers = None }; used = 0 }

-- how a thread ends, at whose bottom this stands
abbrev pub ends_as : Found Ref → Option Ending
ends_as (Next t) = None
ends_as (Needs op fs) = None
ends_as (Done v) = Some (ByValue v)
ends_as (Uncaught (Exn e)) = Some (ByException e)
ends_as (Uncaught ExitUp) = Some (ByException exit_outside)

-- a packet that stands first in a line, or a request that waits, is taken
pub data Takes : World → ℕ → ℕ → Packet → World → Type 0 where
  OffLine : {w : World} {a b : ℕ} {p : Packet} → (ps : List Packet) → w.lines a b ≡ p ∷ ps → Takes w a b p (with_line w a b ps)
  OffHold : {w : World} {a b : ℕ} {p : Packet} → w.waiting b (thread_of p) ≡ Some (record { from = a; packet = p }) → Takes w a b p (park w b (thread_of p) None)

-- the segment that a call from pending call k of site a begins with this term
abbrev pub answering : (a k used depth : ℕ) → Self Ref → Term Ref → Slot
answering a k used depth self y =
    record { segment = record { window = y; depth = depth; self = self; answers = Some (record { site = a; number = k }) }; used = used + 1 }

-- the window is at its bottom with this outcome
abbrev pub IsOut : Term Ref → Outcome Ref → Type 0
IsOut x (Answer v) = x ≡ Const v
IsOut x (RaisedUp r) = x ≡ raising r
IsOut x o = ⊥

-- ---- the events

pub data Step (turns : ℕ) : World → World → Type 0 where
  -- n pure steps of the segment of thread t that runs at site s
  Steps : (w : World) (s t n : ℕ) (slot : Slot) (u : Term Ref)
      → w.running s t ≡ Some slot → slot.used + n ≤ turns → after_steps slot.segment.depth slot.segment.self n slot.segment.window ≡ Some u
      → Step turns w (note (start w s t (moved slot n u)) (entry_of t n None))
  -- n pure steps and an act that is done there
  Acted : (w : World) (s t n : ℕ) (slot : Slot) (u : Term Ref) (op : Operation Ref) (hs : List (Frame Ref)) (kind : ActKind) (loc : ℕ) (m : Memory) (x : Term Ref)
      → w.running s t ≡ Some slot → slot.used + n < turns → after_steps slot.segment.depth slot.segment.self n slot.segment.window ≡ Some u
      → find same_ref slot.segment.depth slot.segment.self u ≡ Needs op hs → Does w.memory w.ended w.threads t (self_at slot.segment.self hs) op kind loc m x
      → Step turns w (note (start (with_memory w m) s t (moved slot (n + 1) (plug hs x))) (entry_of t n (Some (act kind loc))))
  -- n pure steps and a thread more
  Forks : (w : World) (s t n : ℕ) (slot : Slot) (u : Term Ref) (v : Value Ref) (hs : List (Frame Ref))
      → w.running s t ≡ Some slot → slot.used + n < turns → after_steps slot.segment.depth slot.segment.self n slot.segment.window ≡ Some u
      → find same_ref slot.segment.depth slot.segment.self u ≡ Needs (ForkOff v) hs → nat_le THREAD_LIMIT w.threads ≡ false
      → Step turns w (note (start (one_thread_more (start w s t (moved slot (n + 1) (plug hs (Const (Thread w.threads)))))) s w.threads (calling v)) (entry_of t n (Some (act ActKind.Fork w.threads))))
  -- n pure steps and the end of the thread
  Finishes : (w : World) (s t n : ℕ) (slot : Slot) (u : Term Ref) (e : Ending)
      → w.running s t ≡ Some slot → slot.segment.answers ≡ None → slot.used + n < turns → after_steps slot.segment.depth slot.segment.self n slot.segment.window ≡ Some u
      → ends_as (find same_ref slot.segment.depth slot.segment.self u) ≡ Some e
      → Step turns w (note (settle (without w s t) s t e) (entry_of t n (Some (act ActKind.End t))))
  -- the operation that stands next is asked for at another site
  Asks : (w : World) (s t to k : ℕ) (slot : Slot) (op : Operation Ref) (hs : List (Frame Ref))
      → w.running s t ≡ Some slot → slot.used < turns → find same_ref slot.segment.depth slot.segment.self slot.segment.window ≡ Needs op hs → w.pending s k ≡ None
      → Step turns w (post (pend (without w s t) s k (Some (record { thread = t; segment = slot.segment }))) s to
      (Request t k slot.used (activations_at slot.segment.depth hs) (self_at slot.segment.self hs) (wire op)))
  -- a request does its act, and its reply is posted
  Serves : (w w1 : World) (a b t k used depth : ℕ) (self : Self Ref) (op : Operation Ref) (kind : ActKind) (loc : ℕ) (m : Memory) (x : Term Ref) (o : Outcome Ref)
      → Takes w a b (Request t k used depth self op) w1 → MayAsk op → Does w.memory w.ended w.threads t self op kind loc m x → result_of x ≡ Gives o
      → Step turns w (note (post (with_memory w1 m) b a (Reply t k (used + 1) o)) (entry_of t 0 (Some (act kind loc))))
  -- a request does its act, and a new segment runs
  Enters : (w w1 : World) (a b t k used depth : ℕ) (self : Self Ref) (op : Operation Ref) (kind : ActKind) (loc : ℕ) (m : Memory) (x y : Term Ref)
      → Takes w a b (Request t k used depth self op) w1 → IsCall op → Does w.memory w.ended w.threads t self op kind loc m x → result_of x ≡ result.Enters y
      → Step turns w (note (start (with_memory w1 m) b t (answering a k used depth self y)) (entry_of t 0 (Some (act kind loc))))
  -- a request waits
  Holds : (w w1 : World) (a b t k used depth : ℕ) (self : Self Ref) (op : Operation Ref)
      → Takes w a b (Request t k used depth self op) w1
      → Step turns w (park w1 b t (Some (record { from = a; packet = Request t k used depth self op })))
  -- a segment at its bottom answers
  Returns : (w : World) (s t : ℕ) (slot : Slot) (call : PendingCall) (o : Outcome Ref)
      → w.running s t ≡ Some slot → slot.segment.answers ≡ Some call → IsOut slot.segment.window o
      → Step turns w (post (without w s t) s call.site (Reply t call.number slot.used o))
  -- a reply goes into the hole of the segment that was suspended for it
  Resumes : (w w1 : World) (a b t k used : ℕ) (o : Outcome Ref) (e : Suspended) (op : Operation Ref) (hs : List (Frame Ref))
      → Takes w a b (Reply t k used o) w1 → w.pending b k ≡ Some e → find same_ref e.segment.depth e.segment.self e.segment.window ≡ Needs op hs
      → Step turns w (start (pend w1 b k None) b t (record { segment = with_window e.segment (plug hs (answer_term op o)); used = used }))

-- every list of events
pub data Run (turns : ℕ) (w : World) : World → Type 0 where
  Begin : Run turns w w
  Then : {v x : World} → Run turns w v → Step turns v x → Run turns w x

-- ---- the opening: site k has one writer and thread k

abbrev pub writer_at : ℕ → Ref
writer_at k = record { site = k; kind = Writer; index = 0 }

-- window k reads back as block k, in which `stdout` is the writer of site k
abbrev pub Opens : ℕ → List (Term Ref) → List BlockTree → Type 0
Opens k [] [] = Unit {0}
Opens k (x ∷ xs) (b ∷ bs) = ((f : Ref → ℕ) → f (writer_at k) ≡ k → map_term f x ≡ block_term k [] b) × Opens (suc k) xs bs
Opens k xs bs = ⊥

-- the blocks opened at their sites: window k is block k, in which `stdout` is the writer of site k
abbrev pub windows : ℕ → List BlockTree → List (Term Ref)
windows k [] = []
windows k (b ∷ bs) = block_term (writer_at k) [] b ∷ windows (suc k) bs

abbrev pub first_cell : ℕ → Heap
first_cell n r = if nat_lt r.site n && same_ref r (writer_at r.site) then Some (record { born = r.site; cell = WriterCell [] }) else None

abbrev pub first_slot : Term Ref → Slot
first_slot x = record { segment = record { window = x; depth = 0; self = no_self; answers = None }; used = 0 }

abbrev pub first_running : List (Term Ref) → ℕ → ℕ → Option Slot
first_running windows s t = if s == t then option_map first_slot (slice_get windows t) else None

abbrev pub world_at : List (Term Ref) → World
world_at windows =
    record {
      memory = record { count = length windows; heap = first_cell (length windows); names = [] };
      threads = length windows;
      pending = λ _ _. None;
      running = first_running windows;
      waiting = λ _ _. None;
      ended = λ _ _. None;
      lines = λ _ _. [];
      journal = [];
    }

-- ---- one site

-- a World of one site, with no requests
pub record Alone : Type 0 where
  pub memory : Memory
  pub threads : ℕ
  pub running : ℕ → Option Slot
  pub ended : ℕ → Option Ending
  pub journal : List Entry

abbrev pub single : {X : Type 0} → (ℕ → Option X) → ℕ → ℕ → Option X
single f s t = if s == 0 then f t else None

abbrev pub world_of : Alone → World
world_of a =
    record {
      memory = a.memory;
      threads = a.threads;
      pending = λ _ _. None;
      running = single a.running;
      waiting = λ _ _. None;
      ended = single a.ended;
      lines = λ _ _. [];
      journal = a.journal;
    }

-- the changes of its events
abbrev pub goes : Alone → ℕ → Option Slot → Entry → Alone
goes a t slot e = record a { running = with_at a.running t slot; journal = a.journal ++ e ∷ [] }

-- the events of a World of one site
pub data Turn (turns : ℕ) : Alone → Alone → Type 0 where
  TurnSteps : (a : Alone) (t n : ℕ) (slot : Slot) (u : Term Ref)
      → a.running t ≡ Some slot → slot.used + n ≤ turns → after_steps slot.segment.depth slot.segment.self n slot.segment.window ≡ Some u
      → Turn turns a (goes a t (Some (moved slot n u)) (entry_of t n None))
  TurnActs : (a : Alone) (t n : ℕ) (slot : Slot) (u : Term Ref) (op : Operation Ref) (hs : List (Frame Ref)) (kind : ActKind) (loc : ℕ) (m : Memory) (x : Term Ref)
      → a.running t ≡ Some slot → slot.used + n < turns → after_steps slot.segment.depth slot.segment.self n slot.segment.window ≡ Some u
      → find same_ref slot.segment.depth slot.segment.self u ≡ Needs op hs → Does a.memory (single a.ended) a.threads t (self_at slot.segment.self hs) op kind loc m x
      → Turn turns a (record (goes a t (Some (moved slot (n + 1) (plug hs x))) (entry_of t n (Some (act kind loc)))) { memory = m })
  TurnForks : (a : Alone) (t n : ℕ) (slot : Slot) (u : Term Ref) (v : Value Ref) (hs : List (Frame Ref))
      → a.running t ≡ Some slot → slot.used + n < turns → after_steps slot.segment.depth slot.segment.self n slot.segment.window ≡ Some u
      → find same_ref slot.segment.depth slot.segment.self u ≡ Needs (ForkOff v) hs → nat_le THREAD_LIMIT a.threads ≡ false
      → Turn turns a (record a { threads = suc a.threads; running = with_at (with_at a.running t (Some (moved slot (n + 1) (plug hs (Const (Thread a.threads)))))) a.threads (Some (calling v)); journal = a.journal ++ entry_of t n (Some (act ActKind.Fork a.threads)) ∷ [] })
  TurnEnds : (a : Alone) (t n : ℕ) (slot : Slot) (u : Term Ref) (e : Ending)
      → a.running t ≡ Some slot → slot.segment.answers ≡ None → slot.used + n < turns → after_steps slot.segment.depth slot.segment.self n slot.segment.window ≡ Some u
      → ends_as (find same_ref slot.segment.depth slot.segment.self u) ≡ Some e
      → Turn turns a (record (goes a t None (entry_of t n (Some (act ActKind.End t)))) { ended = with_at a.ended t (Some e) })

-- ---- the laws

-- each event keeps that the journal replays to a configuration for which the World stands
abbrev pub StepKeeps : Type 0
StepKeeps = (trees : List BlockTree) (turns : ℕ) (w x : World) → StandsFor trees turns w → Step turns w x → StandsFor trees turns x

-- the World at the start stands for the opening configuration, with any windows that read back as the blocks
abbrev pub BeginsBy : Type 0
BeginsBy = (trees : List BlockTree) (turns : ℕ) (xs : List (Term Ref)) → Opens 0 xs trees → StandsFor trees turns (world_at xs)

-- and so with the blocks opened at their sites
abbrev pub Begins : Type 0
Begins = (trees : List BlockTree) (turns : ℕ) → StandsFor trees turns (world_at (windows 0 trees))

-- after every list of events the World stands for the replay of its journal
abbrev pub EveryRunStands : Type 0
EveryRunStands = (trees : List BlockTree) (turns : ℕ) (w : World) → Run turns (world_at (windows 0 trees)) w → StandsFor trees turns w

-- a World of one site stands for the replay of its journal behind each event
abbrev pub TurnKeeps : Type 0
TurnKeeps = (trees : List BlockTree) (turns : ℕ) (a b : Alone) → StandsFor trees turns (world_of a) → Turn turns a b → StandsFor trees turns (world_of b)

-- so it does at the start
abbrev pub alone_at : Term Ref → Alone
alone_at x =
    record {
      memory = record { count = 1; heap = first_cell 1; names = [] };
      threads = 1;
      running = λ t. if t == 0 then Some (first_slot x) else None;
      ended = λ _. None;
      journal = [];
    }

abbrev pub AloneBegins : Type 0
AloneBegins = (tree : BlockTree) (turns : ℕ) → StandsFor (tree ∷ []) turns (world_of (alone_at (block_term (writer_at 0) [] tree)))

-- the operation looks at the cell of this reference
abbrev pub LooksAt : Operation Ref → Ref → Type 0
LooksAt (Again o c guard) r = (r ≡ o) ⊎ (r ≡ c)
LooksAt op r = cell_of op ≡ Some r

-- each cell that a segment's next operation looks at is there, at whatever site
abbrev pub Present : Type 0
Present =
    (turns : ℕ) (w : World) (c : Config) (s t : ℕ) (slot : Slot) (op : Operation Ref) (hs : List (Frame Ref)) → Stands turns w c → w.running s t ≡ Some slot
    → find same_ref slot.segment.depth slot.segment.self slot.segment.window ≡ Needs op hs → (r : Ref) → LooksAt op r → (x : Born) × (w.memory.heap r ≡ Some x)

-- so is each that a request in a line looks at, or one that waits
abbrev pub PresentAbroad : Type 0
PresentAbroad =
    (turns : ℕ) (w w1 : World) (c : Config) (a b t k used depth : ℕ) (self : Self Ref) (op : Operation Ref) → Stands turns w c → Takes w a b (Request t k used depth self op) w1
    → (r : Ref) → LooksAt op r → (x : Born) × (w.memory.heap r ≡ Some x)
