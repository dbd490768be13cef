-- Several sites as plain data over references: a heap, segments, lines of packets, waiting requests, endings. No windows, bytes, caches or codes.
use Rattle.std.specs.Prelude.{Bool, List, Option, Some, None, [], ◌∷◌, ◌++◌, ℕ, suc, pos, ◌==◌, ◌&&◌, if◌then◌else◌, unwrap_or}
use Rattle.obq_base.specs.declared.trees.Flags.{Flags}
use Rattle.obq_base.specs.declared.acts.ActKind.{ActKind}
use Rattle.obq_base.specs.declared.acts.Entry.{Entry}
use Rattle.obq_model.specs.Terms.{Bytes, LocKind, Object, Raised, Value, Int, Okay, Loc, Fields, Bare, Select, Invoke, SetValue, SetMethod, EachAt, EachIn, Raising, Cloning, Testing, Lined, Out, Term, Const, Name, Form, Part, End}
use Rattle.obq_model.specs.Put.{enter}
use Rattle.obq_model.specs.Builtins.{kind_number}
use Rattle.obq_model.specs.Exceptions.{raising, raise, wrong_type}
use Rattle.obq_model.specs.Store.{Cell, append_fields}
use Rattle.obq_model.specs.Step.{Self, Operation, New, Get, CallMethod, Leave, Set, Copy, GetItem, GetSize, EachSize, EachItem, ForkOff, LineUp, GiveUp, Again, testing}
use Rattle.obq_model.specs.Cells.{at_target, set_at_target}

-- f with x at k, and at the pair s, i
abbrev pub with_at : {X : Type 0} → (ℕ → X) → ℕ → X → ℕ → X
with_at f k x j = if j == k then x else f j

abbrev pub at2 : {X : Type 0} → (ℕ → ℕ → X) → ℕ → ℕ → X → ℕ → ℕ → X
at2 f s i x = with_at f s (with_at (f s) i x)

-- ---- references and heaps

-- a cell of a site
pub record Ref : Type 0 where
  pub site : ℕ
  pub kind : LocKind
  pub index : ℕ

abbrev pub same_ref : Ref → Ref → Bool
same_ref a b = a.site == b.site && (kind_number a.kind == kind_number b.kind && a.index == b.index)

-- a cell with the number of its allocation in the journal
pub record Born : Type 0 where
  pub born : ℕ
  pub cell : Cell Ref

abbrev pub Heap : Type 0
Heap = Ref → Option Born

abbrev pub with_ref : Heap → Ref → Option Born → Heap
with_ref h r x q = if same_ref q r then x else h q

-- what stands for the store: how many cells were made, the heaps of all sites, and the exported names
pub record Memory : Type 0 where
  pub count : ℕ
  pub heap : Heap
  pub names : List (Bytes × Value Ref)

-- the cell at r is left so by an act
abbrev pub with_left : Memory → Ref → ℕ → Option (Cell Ref) → Memory
with_left m r born None = m
with_left m r born (Some cell) = record m { heap = with_ref m.heap r (Some (record { born = born; cell = cell })) }

-- a new cell at r
abbrev pub with_made : Memory → Ref → Cell Ref → Memory
with_made m r cell = record m { count = suc m.count; heap = with_ref m.heap r (Some (record { born = m.count; cell = cell })) }

-- ---- segments, and what goes between sites

-- a pending call of a site
pub record PendingCall : Type 0 where
  pub site : ℕ
  pub number : ℕ

-- a part of a thread at one site: its term, the activations and the current self around it, and the pending call that it answers
pub record Segment : Type 0 where
  pub window : Term Ref
  pub depth : ℕ
  pub self : Self Ref
  pub answers : Option PendingCall

-- a running segment, with the turns that its thread has used
pub record Slot : Type 0 where
  pub segment : Segment
  pub used : ℕ

-- a suspended segment: what stands next in its window is the operation that was asked for
pub record Suspended : Type 0 where
  pub thread : ℕ
  pub segment : Segment

-- what a reply carries
pub data Outcome (R : Type 0) : Type 0 where
  Answer : Value R → Outcome R
  RaisedUp : Raised → Outcome R
  HopTo : R → Bytes → Outcome R
  Taken : Flags → Fields R → Outcome R  -- the flags and fields that a clone takes over

-- the operation as a request has it: what only the asking segment needs is left out
abbrev pub wire : {R : Type 0} → Operation R → Operation R
wire (Copy o first copied rest) = Copy o None Bare []
wire (EachSize a scope) = GetSize a
wire (EachItem a i n scope) = GetItem a (pos i)
wire (LineUp o c guard) = LineUp o c (Name [])
wire (GiveUp o c guard) = GiveUp o o (Name [])
wire (Again o c guard) = Again o c (Name [])
wire op = op

-- what the form of an operation becomes by the outcome of its request
abbrev pub answer_term : {R : Type 0} → Operation R → Outcome R → Term R
answer_term op (RaisedUp r) = raising r
answer_term (Get o x) (HopTo p y) = at_target (Select y) p []
answer_term (CallMethod o x vs) (HopTo p y) = at_target (Invoke y) p vs
answer_term (Set o x body) (HopTo p y) = set_at_target p y body
answer_term op (HopTo p y) = wrong_type
answer_term (Copy o first copied rest) (Taken flags fields) = Form (Cloning (Some (unwrap_or first flags)) (append_fields copied fields) rest) End
answer_term op (Taken flags fields) = wrong_type
answer_term (EachSize a scope) (Answer (Int (pos n))) = Form (EachAt a 0 n) (Part scope End)
answer_term (EachItem a i n scope) (Answer v) = Form (EachIn a i n) (Part (enter (v ∷ []) scope) (Part scope End))
answer_term (LineUp o c guard) (Answer v) = Form (Lined o c) (Part guard End)
answer_term (GiveUp o c guard) (Answer v) = Form (Out o c) (Part guard End)
answer_term (Again o c guard) (Answer v) = testing o c guard
answer_term op (Answer v) = Const v

-- what an operation comes to where it is done: an outcome, or an activation that begins there
pub data Result (R : Type 0) : Type 0 where
  Gives : Outcome R → Result R
  Enters : Term R → Result R

-- the result of an operation behind which this stands at the focus
abbrev pub result_of : {R : Type 0} → Term R → Result R
result_of (Const v) = Gives (Answer v)
result_of (Form (Raising r) End) = Gives (RaisedUp r)
result_of (Form (Select y) (Part (Const (Loc Object p)) ts)) = Gives (HopTo p y)
result_of (Form (Invoke y) (Part (Const (Loc Object p)) ts)) = Gives (HopTo p y)
result_of (Form (SetValue y) (Part (Const (Loc Object p)) ts)) = Gives (HopTo p y)
result_of (Form (SetMethod y) (Part (Const (Loc Object p)) ts)) = Gives (HopTo p y)
result_of (Form (Cloning (Some flags) fields rest) End) = Gives (Taken flags fields)
result_of (Form (Lined o c) ts) = Gives (Answer Okay)
result_of (Form (Out o c) ts) = Gives (Answer Okay)
result_of (Form (Testing o c) ts) = Gives (Answer Okay)
result_of t = Enters t

abbrev pub result_term : {R : Type 0} → Operation R → Result R → Term R
result_term op (Gives o) = answer_term op o
result_term op (Enters t) = t

-- an operation that may be done at another site
abbrev pub MayAsk : {R : Type 0} → Operation R → Type 0
MayAsk (New cell after) = ⊥
MayAsk (Leave o out) = ⊥
MayAsk (ForkOff v) = ⊥
MayAsk op = Unit {0}

pub data Packet : Type 0 where
  Request : (thread : ℕ) → (call : ℕ) → (used : ℕ) → (depth : ℕ) → (self : Self Ref) → Operation Ref → Packet
  Reply : (thread : ℕ) → (call : ℕ) → (used : ℕ) → Outcome Ref → Packet

abbrev pub thread_of : Packet → ℕ
thread_of (Request t k used depth self op) = t
thread_of (Reply t k used outcome) = t

-- a request that waits, with the site that it came from
pub record Parked : Type 0 where
  pub from : ℕ
  pub packet : Packet

-- how a thread ended
pub data Ending : Type 0 where
  ByValue : Value Ref → Ending
  ByException : Bytes → Ending

abbrev pub ending_term : Ending → Term Ref
ending_term (ByValue v) = Const v
ending_term (ByException e) = raise e

pub record World : Type 0 where
  pub memory : Memory
  pub threads : ℕ  -- how many threads there are
  pub pending : ℕ → ℕ → Option Suspended  -- site, number of the call
  pub running : ℕ → ℕ → Option Slot  -- site, thread
  pub waiting : ℕ → ℕ → Option Parked  -- site, thread
  pub ended : ℕ → ℕ → Option Ending  -- site, thread
  pub lines : ℕ → ℕ → List Packet  -- from, to
  pub journal : List Entry

-- ---- the changes that events are made of

abbrev pub without : World → ℕ → ℕ → World
without w s t = record w { running = at2 w.running s t None }

abbrev pub start : World → ℕ → ℕ → Slot → World
start w s t slot = record w { running = at2 w.running s t (Some slot) }

abbrev pub settle : World → ℕ → ℕ → Ending → World
settle w s t e = record w { ended = at2 w.ended s t (Some e) }

abbrev pub post : World → ℕ → ℕ → Packet → World
post w a b p = record w { lines = at2 w.lines a b (w.lines a b ++ p ∷ []) }

abbrev pub with_line : World → ℕ → ℕ → List Packet → World
with_line w a b ps = record w { lines = at2 w.lines a b ps }

abbrev pub park : World → ℕ → ℕ → Option Parked → World
park w b t x = record w { waiting = at2 w.waiting b t x }

abbrev pub pend : World → ℕ → ℕ → Option Suspended → World
pend w s k x = record w { pending = at2 w.pending s k x }

abbrev pub with_memory : World → Memory → World
with_memory w m = record w { memory = m }

abbrev pub one_thread_more : World → World
one_thread_more w = record w { threads = suc w.threads }

abbrev pub note : World → Entry → World
note w e = record w { journal = w.journal ++ e ∷ [] }

-- ---- an act, where it is done

-- what the row of a cell comes to
pub data Row (R : Type 0) : Type 0 where
  Idle : Row R
  Ends : ActKind → Option (Cell R) → Term R → Row R
