-- What a World stands for: the relation between the sites and a configuration of the one-store machine, part by part.
-- 1. The heaps of all sites are the store. 2. The segments of a thread, put into each other's holes, are its term. 3. Each thread is at one place.
use Rattle.std.specs.Prelude.{Bool, List, Option, Some, None, [], true, ◌∷◌, ◌++◌, ℕ, zero, suc, length, slice_get, ◌<◌, ◌≡◌, ◌⊎◌, nat_le}
use Rattle.obq_base.specs.declared.acts.ActKind.{ActKind}
use Rattle.obq_base.specs.Tree.{BlockTree}
use Rattle.obq_model.specs.Terms.{Bytes, Value, Okay, Term, Const}
use Rattle.obq_model.specs.Exceptions.{fork_limit}
use Rattle.obq_model.specs.Store.{Cell, Store, same_loc, exported, export}
use Rattle.obq_model.specs.Step.{Self, no_self, After, Operation, New, CallMethod, ForkOff, JoinWith, Again, Export, Import, RunEngine, Frame, plug, Needs, find, self_at, activations_at, next_of}
use Rattle.obq_model.specs.Config.{Execution, Running, Returned, Failed, ThreadState, Config}
use Rattle.obq_model.specs.Effect.{in_line, line_of}
use Rattle.obq_model.specs.Cells.{cell_row, again_row, import_row, after_new}
use Rattle.obq_model.specs.Maps.{map_value, map_term, map_cell, map_frames, map_names}
use Rattle.obq_model.specs.Replay.{replay}
use Rattle.obq_stands.specs.World.{Ref, same_ref, Born, Heap, Memory, with_left, with_made, PendingCall, Segment, Slot, Suspended, Outcome, wire, answer_term, Packet, Request, Reply, thread_of, Parked, Ending, ByValue, ByException, ending_term, World, Idle, Ends}
use Rattle.obq_model.specs.OneCell.{cell_of}
use Rattle.obq_base.specs.declared.limits.TheConstants.{THREAD_LIMIT}

-- ---- 1. the heaps are the store

-- A reference is read as the number of the cell that it names: f is a map of all references that does so. Where there is no cell it is anything, but
-- no two references get one number, so that `is`, and whether an object is the current self, come out alike at the sites and in the store.
pub record Agrees (f : Ref → ℕ) (h : Heap) : Type 0 where
  pub cells : (r : Ref) (x : Born) → h r ≡ Some x → f r ≡ x.born
  pub tells : (a b : Ref) → same_loc (f a) (f b) ≡ same_ref a b

-- The numbers of all cells of all sites are distinct, and are the locations of the store. The cell with number b stands for cell b: its values, owner,
-- line and text are those of the store under every map that agrees, and so are the exported names.
pub record MemoryStands (m : Memory) (st : Store ℕ) : Type 0 where
  pub counted : length st.cells ≡ m.count
  pub below : (r : Ref) (x : Born) → m.heap r ≡ Some x → x.born < m.count
  pub apart : (r q : Ref) (x y : Born) → m.heap r ≡ Some x → m.heap q ≡ Some y → x.born ≡ y.born → r ≡ q
  pub covers : (k : ℕ) → k < m.count → (r : Ref) × (x : Born) × (m.heap r ≡ Some x) × (x.born ≡ k)
  pub cells : (r : Ref) (x : Born) → m.heap r ≡ Some x → (f : Ref → ℕ) → Agrees f m.heap → slice_get st.cells x.born ≡ Some (map_cell f x.cell)
  pub names : (f : Ref → ℕ) → Agrees f m.heap → st.names ≡ map_names f m.names

-- ---- 2. each thread's segments, put into each other's holes, are its term

-- a suspended segment, under the number of its call, and the operation that it asked for with the frames around it
pub record Link : Type 0 where
  pub key : PendingCall
  pub segment : Segment
  pub op : Operation Ref
  pub frames : List (Frame Ref)

abbrev pub Table : Type 0
Table = ℕ → ℕ → Option Suspended

-- it is there, and what stands next in its window is that operation
pub record IsLink (p : Table) (t : ℕ) (l : Link) : Type 0 where
  pub here : p l.key.site l.key.number ≡ Some (record { thread = t; segment = l.segment })
  pub needs : find same_ref l.segment.depth l.segment.self l.segment.window ≡ Needs l.op l.frames

abbrev pub Fresh : ℕ → ℕ → List Link → Type 0
Fresh s k [] = Unit {0}
Fresh s k (l ∷ ls) = (l.key.site ≡ s → l.key.number ≡ k → ⊥) × Fresh s k ls

-- A thread's chain: from a pending call the suspended segments of thread t, innermost first, down to its bottom; no call stands in it twice.
-- Each begins with the activations and the current self at the hole of the one around it.
abbrev pub Chained : Table → ℕ → ℕ → Self Ref → Option PendingCall → List Link → Type 0
Chained p t depth self None [] = (depth ≡ 0) × (self ≡ no_self)
Chained p t depth self None (l ∷ ls) = ⊥
Chained p t depth self (Some k) [] = ⊥
Chained p t depth self (Some k) (l ∷ ls) =
    (k ≡ l.key) × IsLink p t l × Fresh l.key.site l.key.number ls × (depth ≡ activations_at l.segment.depth l.frames) × (self ≡ self_at l.segment.self l.frames)
    × Chained p t l.segment.depth l.segment.self l.segment.answers ls

-- an operation that enters an activation where it is done: its form becomes the value with which that is left
abbrev pub IsCall : Operation Ref → Type 0
IsCall (CallMethod o x vs) = Unit {0}
IsCall (RunEngine e f) = Unit {0}
IsCall op = ⊥

-- each of them waits for an activation
abbrev pub AreCalls : List Link → Type 0
AreCalls [] = Unit {0}
AreCalls (l ∷ ls) = IsCall l.op × AreCalls ls

-- what lies around the hole of the innermost
abbrev pub around : (Ref → ℕ) → List Link → List (Frame ℕ)
around f [] = []
around f (l ∷ ls) = around f ls ++ map_frames f l.frames

-- u is the thread's term: x in the hole of the segments from this call on, read under every agreeing map
pub record Reads (h : Heap) (p : Table) (t : ℕ) (u : Term ℕ) (x : Term Ref) (depth : ℕ) (self : Self Ref) (answers : Option PendingCall) : Type 0 where
  pub links : List Link
  pub chained : Chained p t depth self answers links
  pub calls : AreCalls links
  pub same : (f : Ref → ℕ) → Agrees f h → u ≡ plug (around f links) (map_term f x)

-- a request for this operation is under way: it is what stands next in the segment of this pending call, whose activations and current self it carries
pub record Asked (h : Heap) (p : Table) (t : ℕ) (u : Term ℕ) (call : PendingCall) (depth : ℕ) (self : Self Ref) (op : Operation Ref) : Type 0 where
  pub link : Link
  pub links : List Link
  pub chained : Chained p t depth self (Some call) (link ∷ links)
  pub calls : AreCalls links
  pub asks : wire link.op ≡ op
  pub same : (f : Ref → ℕ) → Agrees f h → u ≡ plug (around f links) (map_term f link.segment.window)

-- a reply is under way: u is the term in which the form that asked is read as what the outcome makes of it
pub record Answered (h : Heap) (p : Table) (t : ℕ) (u : Term ℕ) (call : PendingCall) (outcome : Outcome Ref) : Type 0 where
  pub link : Link
  pub links : List Link
  pub depth : ℕ
  pub self : Self Ref
  pub chained : Chained p t depth self (Some call) (link ∷ links)
  pub calls : AreCalls links
  pub same : (f : Ref → ℕ) → Agrees f h → u ≡ plug (around f (link ∷ links)) (map_term f (answer_term link.op outcome))

-- Each thread is at one place: its segment runs, its request or reply is in a line, its request waits, or its ending is kept.
-- Nowhere only in the middle of an event; Absent: there is no such thread.
pub data Place : Type 0 where
  Nowhere : Place
  Absent : Place
  At : (site : ℕ) → Slot → Place
  InLine : (from to : ℕ) → Packet → Place
  WaitsAt : (site : ℕ) → Parked → Place
  EndedAt : (site : ℕ) → Ending → Place

-- the thread goes on with a term of which P holds, and has used these turns in the configuration
pub record Goes (state : Option ThreadState) (used : ℕ) (P : Term ℕ → Type 0) : Type 0 where
  pub term : Term ℕ
  pub here : state ≡ Some (record { execution = Running term; used = used })
  pub reads : P term

-- a thread with a packet: where that is a request, it has a turn left
abbrev pub Carries : (turns : ℕ) → Heap → Table → ℕ → Option ThreadState → (from to : ℕ) → Packet → Type 0
Carries turns h p t state a b (Request t2 k used depth self op) = (t2 ≡ t) × (used < turns) × Goes state used (λ u. Asked h p t u (record { site = a; number = k }) depth self op)
Carries turns h p t state a b (Reply t2 k used outcome) = (t2 ≡ t) × Goes state used (λ u. Answered h p t u (record { site = b; number = k }) outcome)

abbrev pub ending_of : (Ref → ℕ) → Ending → Execution
ending_of f (ByValue v) = Returned (map_value f v)
ending_of f (ByException e) = Failed e

-- the ending that is kept stands for the thread's ending in the configuration
pub record Ended (h : Heap) (state : Option ThreadState) (e : Ending) : Type 0 where
  pub execution : Execution
  pub used : ℕ
  pub here : state ≡ Some (record { execution = execution; used = used })
  pub same : (f : Ref → ℕ) → Agrees f h → execution ≡ ending_of f e

abbrev pub StandsAt : (turns : ℕ) → Heap → Table → ℕ → Option ThreadState → Place → Type 0
StandsAt turns h p t state Nowhere = Unit {0}
StandsAt turns h p t state Absent = state ≡ None
StandsAt turns h p t state (At s slot) = Goes state slot.used (λ u. Reads h p t u slot.segment.window slot.segment.depth slot.segment.self slot.segment.answers)
StandsAt turns h p t state (InLine a b q) = Carries turns h p t state a b q
StandsAt turns h p t state (WaitsAt b x) = Carries turns h p t state x.from b x.packet
StandsAt turns h p t state (EndedAt s e) = Ended h state e

-- ---- 3. each thread is at its place only

abbrev pub NotIn : ℕ → List Packet → Type 0
NotIn t [] = Unit {0}
NotIn t (q ∷ qs) = (thread_of q ≡ t → ⊥) × NotIn t qs

abbrev pub Fits : (ℕ → Place) → ℕ → ℕ → List Packet → Type 0
Fits place a b [] = Unit {0}
Fits place a b (q ∷ qs) = (place (thread_of q) ≡ InLine a b q) × NotIn (thread_of q) qs × Fits place a b qs

abbrev pub IsIn : Packet → List Packet → Type 0
IsIn p [] = ⊥
IsIn p (q ∷ qs) = (q ≡ p) ⊎ IsIn p qs

abbrev pub HasPlace : (ℕ → ℕ → Option Slot) → (ℕ → ℕ → Option Parked) → (ℕ → ℕ → Option Ending) → (ℕ → ℕ → List Packet) → ℕ → Place → Type 0
HasPlace r wa en ls t Nowhere = Unit {0}
HasPlace r wa en ls t Absent = Unit {0}
HasPlace r wa en ls t (At s slot) = r s t ≡ Some slot
HasPlace r wa en ls t (InLine a b q) = (thread_of q ≡ t) × IsIn q (ls a b)
HasPlace r wa en ls t (WaitsAt b x) = wa b t ≡ Some x
HasPlace r wa en ls t (EndedAt s e) = en s t ≡ Some e

-- What runs, waits, has ended or stands in a line has that as its thread's place: so a thread that isn't there, or has ended, has no segment, request
-- or reply anywhere, one that goes on has no ending, and no thread has two of them.
pub record Placed (r : ℕ → ℕ → Option Slot) (wa : ℕ → ℕ → Option Parked) (en : ℕ → ℕ → Option Ending) (ls : ℕ → ℕ → List Packet) (place : ℕ → Place) : Type 0 where
  pub runs : (s t : ℕ) (slot : Slot) → r s t ≡ Some slot → place t ≡ At s slot
  pub waits : (s t : ℕ) (x : Parked) → wa s t ≡ Some x → place t ≡ WaitsAt s x
  pub ends : (s t : ℕ) (e : Ending) → en s t ≡ Some e → place t ≡ EndedAt s e
  pub fits : (a b : ℕ) → Fits place a b (ls a b)
  pub back : (t : ℕ) → HasPlace r wa en ls t (place t)

abbrev pub IsSomewhere : Place → Type 0
IsSomewhere Nowhere = ⊥
IsSomewhere x = Unit {0}

-- ---- the whole

pub record Stands (turns : ℕ) (w : World) (c : Config) : Type 0 where
  pub place : ℕ → Place
  pub settled : (t : ℕ) → IsSomewhere (place t)
  pub counted : length c.threads ≡ w.threads
  pub memory : MemoryStands w.memory c.store
  pub threads : (t : ℕ) → StandsAt turns w.memory.heap w.pending t (slice_get c.threads t) (place t)
  pub placed : Placed w.running w.waiting w.ended w.lines place

-- its own journal replays, on its own program, to a configuration for which the World stands
pub record StandsFor (trees : List BlockTree) (turns : ℕ) (w : World) : Type 0 where
  pub config : Config
  pub replays : replay trees turns w.journal ≡ Some config
  pub stands : Stands turns w config

-- ---- an act, where it is done

-- the operation of thread t with the current self s is this act at this location, which leaves this memory and this term at the focus
pub data Does (m : Memory) (en : ℕ → ℕ → Option Ending) (threads : ℕ) (t : ℕ) (s : Self Ref) : Operation Ref → ActKind → ℕ → Memory → Term Ref → Type 0 where
  -- on the cell at r
  OnCell : (op : Operation Ref) (r : Ref) (x : Born) (kind : ActKind) (c : Option (Cell Ref)) (focus : Term Ref)
      → cell_of op ≡ Some r → m.heap r ≡ Some x → cell_row same_ref Ends Idle t s op (Some x.cell) ≡ Ends kind c focus
      → Does m en threads t s op kind x.born (with_left m r x.born c) focus
  -- a new cell at r
  Makes : (r : Ref) (cell : Cell Ref) (after : After Ref) → m.heap r ≡ None
      → Does m en threads t s (New cell after) ActKind.New m.count (with_made m r cell) (after_new after r cell)
  -- the mutex of the object o, for a watch at the condition c
  Retakes : (o c : Ref) (guard : Term Ref) (x y : Born) (kind : ActKind) (left : Option (Cell Ref)) (focus : Term Ref)
      → m.heap o ≡ Some x → m.heap c ≡ Some y → again_row Ends Idle t (in_line t (line_of (Some y.cell))) o c guard (Some x.cell) ≡ Ends kind left focus
      → Does m en threads t s (Again o c guard) kind x.born (with_left m o x.born left) focus
  -- the ending of thread u, kept at site b
  Joins : (u b : ℕ) (e : Ending) → en b u ≡ Some e → Does m en threads t s (JoinWith u) ActKind.Join u m (ending_term e)
  Exports : (x : Bytes) (v : Value Ref) → Does m en threads t s (Export x v) ActKind.Export 0 (record m { names = export x v m.names }) (Const Okay)
  Imports : (x : Bytes) (engine : Bool) (kind : ActKind) (focus : Term Ref)
      → import_row Ends Idle engine (exported x m.names) ≡ Ends kind None focus
      → Does m en threads t s (Import x engine) kind 0 m focus
  -- there are as many threads as there may be
  TooMany : (v : Value Ref) → nat_le THREAD_LIMIT threads ≡ true → Does m en threads t s (ForkOff v) ActKind.Fork THREAD_LIMIT m fork_limit

-- the term after n pure steps of a part, with a activations and the current self s around it
abbrev pub after_steps : ℕ → Self Ref → ℕ → Term Ref → Option (Term Ref)
after_steps a s zero t = Some t
after_steps a s (suc n) t = elim (next_of (find same_ref a s t)) [ None ↦ None | Some u ↦ after_steps a s n u ]
