-- A World put together from its sites, and what the contract of a site's act says of that site alone.
use Rattle.std.specs.Prelude.{Bool, List, Option, Some, None, false, true, ◌++◌, ◌∷◌, [], ℕ, suc, ◌+◌, ◌<◌, ◌≤◌, ◌≡◌, nat_le}
use Rattle.obq_base.specs.declared.acts.ActKind.{ActKind}
use Rattle.obq_base.specs.declared.acts.Entry.{Entry}
use Rattle.obq_model.specs.Exceptions.{fork_limit}
use Rattle.obq_model.specs.Terms.{Bytes, Value, Okay, Thread, Term, Const}
use Rattle.obq_model.specs.Store.{Cell, exported, export}
use Rattle.obq_model.specs.Step.{Self, After, Operation, New, ForkOff, JoinWith, Again, Export, Import, Frame, plug, Needs, find, self_at, activations_at}
use Rattle.obq_model.specs.Config.{act}
use Rattle.obq_model.specs.Effect.{in_line, line_of}
use Rattle.obq_model.specs.Cells.{cell_row, again_row, import_row, after_new}
use Rattle.obq_laws.specs.Determinism.{entry_of}
use Rattle.obq_stands.specs.World.{thread_of, with_at, at2, PendingCall, Outcome, Gives, wire, answer_term, result_of, MayAsk, Request, Reply, Ref, same_ref, Born, Heap, with_ref, Slot, Suspended, Packet, Parked, Ending, ending_term, World, Idle, Ends}
use Rattle.obq_stands.specs.World as result
use Rattle.obq_stands.specs.Stands.{IsCall, after_steps}
use Rattle.obq_stands.specs.Watch.{Watch}
use Rattle.obq_stands.specs.Joined.{Beside, HasNoAct, WatchStep}
use Rattle.obq_stands.specs.AtSites.{IsSited}
use Rattle.obq_stands.specs.WatchRuns.{IsSitedBeside}
use Rattle.obq_stands.specs.Events.{with_window, moved, calling, answering, ends_as, IsOut, Step}
use Rattle.obq_model.specs.OneCell.{cell_of}
use Rattle.obq_base.specs.declared.limits.TheConstants.{THREAD_LIMIT}

pub record Site : Type 0 where
  pub heap : Heap
  pub running : ℕ → Option Slot
  pub pending : ℕ → Option Suspended
  pub waiting : ℕ → Option Parked
  pub ended : ℕ → Option Ending

-- what a World has besides its sites
pub record Rest : Type 0 where
  pub count : ℕ
  pub names : List (Bytes × Value Ref)
  pub threads : ℕ
  pub lines : ℕ → ℕ → List Packet
  pub journal : List Entry

abbrev pub assembled : (ℕ → Site) → Rest → World
assembled sites rest =
    record {
      memory = record { count = rest.count; heap = λ r. (sites r.site).heap r; names = rest.names };
      threads = rest.threads;
      pending = λ s k. (sites s).pending k;
      running = λ s t. (sites s).running t;
      waiting = λ s t. (sites s).waiting t;
      ended = λ s t. (sites s).ended t;
      lines = rest.lines;
      journal = rest.journal;
    }

-- the cell at r is left so
abbrev pub left_at : Heap → Ref → ℕ → Option (Cell Ref) → Heap
left_at h r born None = h
left_at h r born (Some cell) = with_ref h r (Some (record { born = born; cell = cell }))

-- thread t does the operation with the current self z at site s: the act, the site's heap behind it, how many cells were made, and the term at the focus
pub data Did (s : ℕ) (h : Heap) (count t : ℕ) (z : Self Ref) : Operation Ref → ActKind → ℕ → Heap → ℕ → Term Ref → Type 0 where
  AtCell : (op : Operation Ref) (r : Ref) (x : Born) (kind : ActKind) (left : Option (Cell Ref)) (focus : Term Ref)
      → r.site ≡ s → cell_of op ≡ Some r → h r ≡ Some x → cell_row same_ref Ends Idle t z op (Some x.cell) ≡ Ends kind left focus
      → Did s h count t z op kind x.born (left_at h r x.born left) count focus
  Made : (r : Ref) (cell : Cell Ref) (after : After Ref) → r.site ≡ s → h r ≡ None
      → Did s h count t z (New cell after) ActKind.New count (with_ref h r (Some (record { born = count; cell = cell }))) (suc count) (after_new after r cell)
  Retook : (o c : Ref) (guard : Term Ref) (x y : Born) (kind : ActKind) (left : Option (Cell Ref)) (focus : Term Ref)
      → o.site ≡ s → c.site ≡ s → h o ≡ Some x → h c ≡ Some y → again_row Ends Idle t (in_line t (line_of (Some y.cell))) o c guard (Some x.cell) ≡ Ends kind left focus
      → Did s h count t z (Again o c guard) kind x.born (left_at h o x.born left) count focus

-- Each law below says that what one site did is an event of the World of all sites, and that its act is done at its site. So what every such event keeps holds
-- behind it: that the World stands for the replay of its journal, homes, trails, counts, cells.

-- an event whose act is done at its site, whichever site the name server is
abbrev pub AtItsSite : ℕ → World → World → Type 0
AtItsSite turns w x = (p : Step turns w x) × ((server : ℕ) → IsSited server p)

-- an event in which no operation is done
abbrev pub Quiet : ℕ → World → World → Type 0
Quiet turns w x = (p : Step turns w x) × HasNoAct p × ((server : ℕ) → IsSited server p)

-- a commit with n pure steps and an act that site s did
abbrev pub SiteActs : Type 0
SiteActs =
    (turns : ℕ) (sites : ℕ → Site) (rest : Rest) (s t n : ℕ) (slot : Slot) (u : Term Ref) (op : Operation Ref) (hs : List (Frame Ref)) (kind : ActKind) (loc : ℕ) (h : Heap) (count : ℕ) (x : Term Ref)
    → (sites s).running t ≡ Some slot → slot.used + n < turns → after_steps slot.segment.depth slot.segment.self n slot.segment.window ≡ Some u
    → find same_ref slot.segment.depth slot.segment.self u ≡ Needs op hs → Did s (sites s).heap rest.count t (self_at slot.segment.self hs) op kind loc h count x
    → AtItsSite turns (assembled sites rest) (assembled (with_at sites s (record (sites s) { heap = h; running = with_at (sites s).running t (Some (moved slot (n + 1) (plug hs x))) }))
    (record rest { count = count; journal = rest.journal ++ entry_of t n (Some (act kind loc)) ∷ [] }))

-- site s with another running segment of thread t, and so on
abbrev pub runs_at : (ℕ → Site) → ℕ → ℕ → Option Slot → Site
runs_at sites s t slot = record (sites s) { running = with_at (sites s).running t slot }

-- a commit with n pure steps
abbrev pub SiteSteps : Type 0
SiteSteps =
    (turns : ℕ) (sites : ℕ → Site) (rest : Rest) (s t n : ℕ) (slot : Slot) (u : Term Ref) → (sites s).running t ≡ Some slot → slot.used + n ≤ turns
    → after_steps slot.segment.depth slot.segment.self n slot.segment.window ≡ Some u
    → Quiet turns (assembled sites rest) (assembled (with_at sites s (runs_at sites s t (Some (moved slot n u)))) (record rest { journal = rest.journal ++ entry_of t n None ∷ [] }))

-- a commit with a join: the ending of thread v is kept at site b
abbrev pub SiteJoins : Type 0
SiteJoins =
    (turns : ℕ) (sites : ℕ → Site) (rest : Rest) (s t n v b : ℕ) (e : Ending) (slot : Slot) (u : Term Ref) (hs : List (Frame Ref)) → (sites s).running t ≡ Some slot → slot.used + n < turns
    → after_steps slot.segment.depth slot.segment.self n slot.segment.window ≡ Some u → find same_ref slot.segment.depth slot.segment.self u ≡ Needs (JoinWith v) hs → (sites b).ended v ≡ Some e
    → (p : Step turns (assembled sites rest) (assembled (with_at sites s (runs_at sites s t (Some (moved slot (n + 1) (plug hs (ending_term e)))))) (record rest { journal = rest.journal ++ entry_of t n (Some (act ActKind.Join v)) ∷ [] }))) × (b ≡ s → (server : ℕ) → IsSited server p)

-- a commit with a fork: the thread begins at the same site
abbrev pub SiteForks : Type 0
SiteForks =
    (turns : ℕ) (sites : ℕ → Site) (rest : Rest) (s t n : ℕ) (slot : Slot) (u : Term Ref) (v : Value Ref) (hs : List (Frame Ref)) → (sites s).running t ≡ Some slot → slot.used + n < turns
    → after_steps slot.segment.depth slot.segment.self n slot.segment.window ≡ Some u → find same_ref slot.segment.depth slot.segment.self u ≡ Needs (ForkOff v) hs → nat_le THREAD_LIMIT rest.threads ≡ false
    → Quiet turns (assembled sites rest) (assembled (with_at sites s (record (sites s) { running = with_at (with_at (sites s).running t (Some (moved slot (n + 1) (plug hs (Const (Thread rest.threads)))))) rest.threads (Some (calling v)) }))
    (record rest { threads = suc rest.threads; journal = rest.journal ++ entry_of t n (Some (act ActKind.Fork rest.threads)) ∷ [] }))

-- a commit with a fork where there are as many threads as there may be: it raises an exception
abbrev pub SiteForkRefused : Type 0
SiteForkRefused =
    (turns : ℕ) (sites : ℕ → Site) (rest : Rest) (s t n : ℕ) (slot : Slot) (u : Term Ref) (v : Value Ref) (hs : List (Frame Ref)) → (sites s).running t ≡ Some slot → slot.used + n < turns
    → after_steps slot.segment.depth slot.segment.self n slot.segment.window ≡ Some u → find same_ref slot.segment.depth slot.segment.self u ≡ Needs (ForkOff v) hs → nat_le THREAD_LIMIT rest.threads ≡ true
    → AtItsSite turns (assembled sites rest) (assembled (with_at sites s (runs_at sites s t (Some (moved slot (n + 1) (plug hs fork_limit))))) (record rest { journal = rest.journal ++ entry_of t n (Some (act ActKind.Fork THREAD_LIMIT)) ∷ [] }))

-- a commit with the end of a thread, whose ending is kept at its site
abbrev pub SiteEnds : Type 0
SiteEnds =
    (turns : ℕ) (sites : ℕ → Site) (rest : Rest) (s t n : ℕ) (slot : Slot) (u : Term Ref) (e : Ending) → (sites s).running t ≡ Some slot → slot.segment.answers ≡ None → slot.used + n < turns
    → after_steps slot.segment.depth slot.segment.self n slot.segment.window ≡ Some u → ends_as (find same_ref slot.segment.depth slot.segment.self u) ≡ Some e
    → Quiet turns (assembled sites rest) (assembled (with_at sites s (record (sites s) { running = with_at (sites s).running t None; ended = with_at (sites s).ended t (Some e) })) (record rest { journal = rest.journal ++ entry_of t n (Some (act ActKind.End t)) ∷ [] }))

-- ---- at packets

abbrev pub posted : (ℕ → ℕ → List Packet) → ℕ → ℕ → Packet → ℕ → ℕ → List Packet
posted lines a b p = at2 lines a b (lines a b ++ p ∷ [])

-- the operation is abroad: the segment is suspended, and its request is posted
abbrev pub SiteAsks : Type 0
SiteAsks =
    (turns : ℕ) (sites : ℕ → Site) (rest : Rest) (s t to k : ℕ) (slot : Slot) (op : Operation Ref) (hs : List (Frame Ref)) → (sites s).running t ≡ Some slot → slot.used < turns
    → find same_ref slot.segment.depth slot.segment.self slot.segment.window ≡ Needs op hs → (sites s).pending k ≡ None
    → (p : Step turns (assembled sites rest) (assembled (with_at sites s (record (sites s) { running = with_at (sites s).running t None; pending = with_at (sites s).pending k (Some (record { thread = t; segment = slot.segment })) }))
    (record rest { lines = posted rest.lines s to (Request t k slot.used (activations_at slot.segment.depth hs) (self_at slot.segment.self hs) (wire op)) })))
    × HasNoAct p × (MayAsk op → (server : ℕ) → IsSited server p)

-- the first packet of the line from a to b is a request that site b does, and whose reply is posted
abbrev pub SiteServes : Type 0
SiteServes =
    (turns : ℕ) (sites : ℕ → Site) (rest : Rest) (a b t k used depth : ℕ) (self : Self Ref) (op : Operation Ref) (ps : List Packet) (kind : ActKind) (loc : ℕ) (h : Heap) (count : ℕ) (x : Term Ref) (o : Outcome Ref)
    → rest.lines a b ≡ Request t k used depth self op ∷ ps → MayAsk op → Did b (sites b).heap rest.count t self op kind loc h count x → result_of x ≡ Gives o
    → AtItsSite turns (assembled sites rest) (assembled (with_at sites b (record (sites b) { heap = h }))
    (record rest { count = count; lines = posted (at2 rest.lines a b ps) b a (Reply t k (used + 1) o); journal = rest.journal ++ entry_of t 0 (Some (act kind loc)) ∷ [] }))

-- or in which an activation begins
abbrev pub SiteEnters : Type 0
SiteEnters =
    (turns : ℕ) (sites : ℕ → Site) (rest : Rest) (a b t k used depth : ℕ) (self : Self Ref) (op : Operation Ref) (ps : List Packet) (kind : ActKind) (loc : ℕ) (h : Heap) (count : ℕ) (x y : Term Ref)
    → rest.lines a b ≡ Request t k used depth self op ∷ ps → IsCall op → Did b (sites b).heap rest.count t self op kind loc h count x → result_of x ≡ result.Enters y
    → AtItsSite turns (assembled sites rest) (assembled (with_at sites b (record (sites b) { heap = h; running = with_at (sites b).running t (Some (answering a k used depth self y)) }))
    (record rest { count = count; lines = at2 rest.lines a b ps; journal = rest.journal ++ entry_of t 0 (Some (act kind loc)) ∷ [] }))

-- a segment at its bottom answers
abbrev pub SiteAnswers : Type 0
SiteAnswers =
    (turns : ℕ) (sites : ℕ → Site) (rest : Rest) (s t : ℕ) (slot : Slot) (call : PendingCall) (o : Outcome Ref) → (sites s).running t ≡ Some slot → slot.segment.answers ≡ Some call
    → IsOut slot.segment.window o → Quiet turns (assembled sites rest) (assembled (with_at sites s (runs_at sites s t None)) (record rest { lines = posted rest.lines s call.site (Reply t call.number slot.used o) }))

-- the first packet of the line from a to b is a reply
abbrev pub SiteResumes : Type 0
SiteResumes =
    (turns : ℕ) (sites : ℕ → Site) (rest : Rest) (a b t k used : ℕ) (o : Outcome Ref) (ps : List Packet) (e : Suspended) (op : Operation Ref) (hs : List (Frame Ref)) → rest.lines a b ≡ Reply t k used o ∷ ps → (sites b).pending k ≡ Some e → find same_ref e.segment.depth e.segment.self e.segment.window ≡ Needs op hs
    → Quiet turns (assembled sites rest) (assembled (with_at sites b (record (sites b) { running = with_at (sites b).running t (Some (record { segment = with_window e.segment (plug hs (answer_term op o)); used = used })); pending = with_at (sites b).pending k None }))
    (record rest { lines = at2 rest.lines a b ps }))

-- the first packet of the line from a to b is a request that has to wait
abbrev pub SiteHolds : Type 0
SiteHolds =
    (turns : ℕ) (sites : ℕ → Site) (rest : Rest) (a b t k used depth : ℕ) (self : Self Ref) (op : Operation Ref) (ps : List Packet) → rest.lines a b ≡ Request t k used depth self op ∷ ps
    → Quiet turns (assembled sites rest) (assembled (with_at sites b (record (sites b) { waiting = with_at (sites b).waiting t (Some (record { from = a; packet = Request t k used depth self op })) })) (record rest { lines = at2 rest.lines a b ps }))

-- a request that waited is done, and its reply is posted
abbrev pub SiteRetries : Type 0
SiteRetries =
    (turns : ℕ) (sites : ℕ → Site) (rest : Rest) (a b t k used depth : ℕ) (self : Self Ref) (op : Operation Ref) (kind : ActKind) (loc : ℕ) (h : Heap) (count : ℕ) (x : Term Ref) (o : Outcome Ref) → (sites b).waiting t ≡ Some (record { from = a; packet = Request t k used depth self op }) → MayAsk op → Did b (sites b).heap rest.count t self op kind loc h count x → result_of x ≡ Gives o
    → AtItsSite turns (assembled sites rest) (assembled (with_at sites b (record (sites b) { heap = h; waiting = with_at (sites b).waiting t None }))
    (record rest { count = count; lines = posted rest.lines b a (Reply t k (used + 1) o); journal = rest.journal ++ entry_of t 0 (Some (act kind loc)) ∷ [] }))

-- or an activation begins
abbrev pub SiteRetriesEntering : Type 0
SiteRetriesEntering =
    (turns : ℕ) (sites : ℕ → Site) (rest : Rest) (a b t k used depth : ℕ) (self : Self Ref) (op : Operation Ref) (kind : ActKind) (loc : ℕ) (h : Heap) (count : ℕ) (x y : Term Ref) → (sites b).waiting t ≡ Some (record { from = a; packet = Request t k used depth self op }) → IsCall op → Did b (sites b).heap rest.count t self op kind loc h count x → result_of x ≡ result.Enters y
    → AtItsSite turns (assembled sites rest) (assembled (with_at sites b (record (sites b) { heap = h; running = with_at (sites b).running t (Some (answering a k used depth self y)); waiting = with_at (sites b).waiting t None }))
    (record rest { count = count; journal = rest.journal ++ entry_of t 0 (Some (act kind loc)) ∷ [] }))

-- ---- endings and names

-- an operation on an ending that is kept at this site, or on the exported names: the act, the names behind it, and the term at the focus
pub data Named (ended : ℕ → Option Ending) (names : List (Bytes × Value Ref)) : Operation Ref → ActKind → ℕ → List (Bytes × Value Ref) → Term Ref → Type 0 where
  JoinedHere : (u : ℕ) (e : Ending) → ended u ≡ Some e → Named ended names (JoinWith u) ActKind.Join u names (ending_term e)
  ExportedHere : (x : Bytes) (v : Value Ref) → Named ended names (Export x v) ActKind.Export 0 (export x v names) (Const Okay)
  ImportedHere : (x : Bytes) (engine : Bool) (kind : ActKind) (focus : Term Ref) → import_row Ends Idle engine (exported x names) ≡ Ends kind None focus → Named ended names (Import x engine) kind 0 names focus

-- such an operation is done at this site: a name at the name server, an ending where it is kept
abbrev pub IsForNames : Operation Ref → (server site : ℕ) → Type 0
IsForNames (Export x v) server site = server ≡ site
IsForNames (Import x engine) server site = server ≡ site
IsForNames op server site = Unit {0}

-- an event with such an act at this site
abbrev pub AtNames : ℕ → Operation Ref → ℕ → World → World → Type 0
AtNames turns op site w x = (p : Step turns w x) × ((server : ℕ) → IsForNames op server site → IsSited server p)

-- a commit with such an act, done where it is asked for
abbrev pub SiteNames : Type 0
SiteNames =
    (turns : ℕ) (sites : ℕ → Site) (rest : Rest) (s t n : ℕ) (slot : Slot) (u : Term Ref) (op : Operation Ref) (hs : List (Frame Ref)) (kind : ActKind) (loc : ℕ) (names : List (Bytes × Value Ref)) (x : Term Ref)
    → (sites s).running t ≡ Some slot → slot.used + n < turns → after_steps slot.segment.depth slot.segment.self n slot.segment.window ≡ Some u
    → find same_ref slot.segment.depth slot.segment.self u ≡ Needs op hs → Named (sites s).ended rest.names op kind loc names x
    → AtNames turns op s (assembled sites rest) (assembled (with_at sites s (runs_at sites s t (Some (moved slot (n + 1) (plug hs x))))) (record rest { names = names; journal = rest.journal ++ entry_of t n (Some (act kind loc)) ∷ [] }))

-- the first packet of the line from a to b is a request for it, whose reply is posted: no site changes
abbrev pub SiteServesNames : Type 0
SiteServesNames =
    (turns : ℕ) (sites : ℕ → Site) (rest : Rest) (a b t k used depth : ℕ) (self : Self Ref) (op : Operation Ref) (ps : List Packet) (kind : ActKind) (loc : ℕ) (names : List (Bytes × Value Ref)) (x : Term Ref) (o : Outcome Ref)
    → rest.lines a b ≡ Request t k used depth self op ∷ ps → Named (sites b).ended rest.names op kind loc names x → result_of x ≡ Gives o
    → AtNames turns op b (assembled sites rest) (assembled sites (record rest { names = names; lines = posted (at2 rest.lines a b ps) b a (Reply t k (used + 1) o); journal = rest.journal ++ entry_of t 0 (Some (act kind loc)) ∷ [] }))

-- or one that waited
abbrev pub SiteRetriesNames : Type 0
SiteRetriesNames =
    (turns : ℕ) (sites : ℕ → Site) (rest : Rest) (a b t k used depth : ℕ) (self : Self Ref) (op : Operation Ref) (kind : ActKind) (loc : ℕ) (names : List (Bytes × Value Ref)) (x : Term Ref) (o : Outcome Ref) → (sites b).waiting t ≡ Some (record { from = a; packet = Request t k used depth self op }) → Named (sites b).ended rest.names op kind loc names x → result_of x ≡ Gives o
    → AtNames turns op b (assembled sites rest) (assembled (with_at sites b (record (sites b) { waiting = with_at (sites b).waiting t None }))
    (record rest { names = names; lines = posted rest.lines b a (Reply t k (used + 1) o); journal = rest.journal ++ entry_of t 0 (Some (act kind loc)) ∷ [] }))

-- ---- watches over two sites

-- what a site has of them: the wakes noted for its objects, and the notes in its conditions' lines
pub record WatchSite : Type 0 where
  pub noted : ℕ → Option Parked
  pub notes : ℕ → Option Ref

abbrev pub watch_of : (ℕ → WatchSite) → (ℕ → ℕ → List Packet) → Watch
watch_of ws wakes = record { wakes = wakes; noted = λ s t. (ws s).noted t; notes = λ s t. (ws s).notes t }

-- an event with watches whose act is done at its site, and one on a name or an ending
abbrev pub AtItsSiteBeside : ℕ → World → Watch → World → Watch → Type 0
AtItsSiteBeside turns w e x e2 = (p : WatchStep turns w e x e2) × ((server : ℕ) → IsSitedBeside server p)

abbrev pub AtNamesBeside : ℕ → Operation Ref → ℕ → World → Watch → World → Watch → Type 0
AtNamesBeside turns op site w e x e2 = (p : WatchStep turns w e x e2) × ((server : ℕ) → IsForNames op server site → IsSitedBeside server p)

-- a commit with an Again over two sites: the object's site looks at its object and at the noted wake
abbrev pub SiteRetakes : Type 0
SiteRetakes =
    (turns : ℕ) (sites : ℕ → Site) (ws : ℕ → WatchSite) (wakes : ℕ → ℕ → List Packet) (rest : Rest) (s t n : ℕ) (slot : Slot) (u : Term Ref) (o q : Ref) (guard : Term Ref) (hs : List (Frame Ref)) (x : Born) (kind : ActKind) (left : Option (Cell Ref)) (focus : Term Ref) (k : Parked)
    → (sites s).running t ≡ Some slot → slot.used + n < turns → after_steps slot.segment.depth slot.segment.self n slot.segment.window ≡ Some u
    → find same_ref slot.segment.depth slot.segment.self u ≡ Needs (Again o q guard) hs → o.site ≡ s → (sites s).heap o ≡ Some x → (ws s).noted t ≡ Some k → again_row Ends Idle t false o q guard (Some x.cell) ≡ Ends kind left focus
    → AtItsSiteBeside turns (assembled sites rest) (watch_of ws wakes)
    (assembled (with_at sites s (record (sites s) { heap = left_at (sites s).heap o x.born left; running = with_at (sites s).running t (Some (moved slot (n + 1) (plug hs focus))) })) (record rest { journal = rest.journal ++ entry_of t n (Some (act kind x.born)) ∷ [] }))
    (watch_of (with_at ws s (record (ws s) { noted = with_at (ws s).noted t None })) wakes)

-- a wake arrives at its object's site
abbrev pub SiteDelivers : Type 0
SiteDelivers =
    (turns : ℕ) (sites : ℕ → Site) (ws : ℕ → WatchSite) (wakes : ℕ → ℕ → List Packet) (rest : Rest) (a b : ℕ) (p : Packet) (ps : List Packet) → wakes a b ≡ p ∷ ps
    → AtItsSiteBeside turns (assembled sites rest) (watch_of ws wakes) (assembled sites rest) (watch_of (with_at ws b (record (ws b) { noted = with_at (ws b).noted (thread_of p) (Some (record { from = 0; packet = p })) })) (at2 wakes a b ps))

-- a commit with any other act that site s did, with what is noted or posted beside it
abbrev pub SiteActsBeside : Type 0
SiteActsBeside =
    (turns : ℕ) (sites : ℕ → Site) (e e2 : Watch) (rest : Rest) (s t n : ℕ) (slot : Slot) (u : Term Ref) (op : Operation Ref) (hs : List (Frame Ref)) (kind : ActKind) (loc : ℕ) (h : Heap) (count : ℕ) (x : Term Ref)
    → (sites s).running t ≡ Some slot → slot.used + n < turns → after_steps slot.segment.depth slot.segment.self n slot.segment.window ≡ Some u
    → find same_ref slot.segment.depth slot.segment.self u ≡ Needs op hs → Did s (sites s).heap rest.count t (self_at slot.segment.self hs) op kind loc h count x → Beside (assembled sites rest).memory.heap t op e e2
    → AtItsSiteBeside turns (assembled sites rest) e (assembled (with_at sites s (record (sites s) { heap = h; running = with_at (sites s).running t (Some (moved slot (n + 1) (plug hs x))) }))
    (record rest { count = count; journal = rest.journal ++ entry_of t n (Some (act kind loc)) ∷ [] })) e2

-- the same of the first request in the line from a to b, whose reply is posted
abbrev pub SiteServesBeside : Type 0
SiteServesBeside =
    (turns : ℕ) (sites : ℕ → Site) (e e2 : Watch) (rest : Rest) (a b t k used depth : ℕ) (self : Self Ref) (op : Operation Ref) (ps : List Packet) (kind : ActKind) (loc : ℕ) (h : Heap) (count : ℕ) (x : Term Ref) (o : Outcome Ref)
    → rest.lines a b ≡ Request t k used depth self op ∷ ps → MayAsk op → Did b (sites b).heap rest.count t self op kind loc h count x → Beside (assembled sites rest).memory.heap t op e e2 → result_of x ≡ Gives o
    → AtItsSiteBeside turns (assembled sites rest) e (assembled (with_at sites b (record (sites b) { heap = h }))
    (record rest { count = count; lines = posted (at2 rest.lines a b ps) b a (Reply t k (used + 1) o); journal = rest.journal ++ entry_of t 0 (Some (act kind loc)) ∷ [] })) e2

-- so a request by which an activation begins
abbrev pub SiteEntersBeside : Type 0
SiteEntersBeside =
    (turns : ℕ) (sites : ℕ → Site) (e e2 : Watch) (rest : Rest) (a b t k used depth : ℕ) (self : Self Ref) (op : Operation Ref) (ps : List Packet) (kind : ActKind) (loc : ℕ) (h : Heap) (count : ℕ) (x y : Term Ref)
    → rest.lines a b ≡ Request t k used depth self op ∷ ps → IsCall op → Did b (sites b).heap rest.count t self op kind loc h count x → Beside (assembled sites rest).memory.heap t op e e2 → result_of x ≡ result.Enters y
    → AtItsSiteBeside turns (assembled sites rest) e (assembled (with_at sites b (record (sites b) { heap = h; running = with_at (sites b).running t (Some (answering a k used depth self y)) }))
    (record rest { count = count; lines = at2 rest.lines a b ps; journal = rest.journal ++ entry_of t 0 (Some (act kind loc)) ∷ [] })) e2

-- and each of these of a request that waited
abbrev pub SiteRetriesBeside : Type 0
SiteRetriesBeside =
    (turns : ℕ) (sites : ℕ → Site) (e e2 : Watch) (rest : Rest) (a b t k used depth : ℕ) (self : Self Ref) (op : Operation Ref) (kind : ActKind) (loc : ℕ) (h : Heap) (count : ℕ) (x : Term Ref) (o : Outcome Ref)
    → (sites b).waiting t ≡ Some (record { from = a; packet = Request t k used depth self op }) → MayAsk op → Did b (sites b).heap rest.count t self op kind loc h count x → Beside (assembled sites rest).memory.heap t op e e2 → result_of x ≡ Gives o
    → AtItsSiteBeside turns (assembled sites rest) e (assembled (with_at sites b (record (sites b) { heap = h; waiting = with_at (sites b).waiting t None }))
    (record rest { count = count; lines = posted rest.lines b a (Reply t k (used + 1) o); journal = rest.journal ++ entry_of t 0 (Some (act kind loc)) ∷ [] })) e2

abbrev pub SiteRetriesEnteringBeside : Type 0
SiteRetriesEnteringBeside =
    (turns : ℕ) (sites : ℕ → Site) (e e2 : Watch) (rest : Rest) (a b t k used depth : ℕ) (self : Self Ref) (op : Operation Ref) (kind : ActKind) (loc : ℕ) (h : Heap) (count : ℕ) (x y : Term Ref)
    → (sites b).waiting t ≡ Some (record { from = a; packet = Request t k used depth self op }) → IsCall op → Did b (sites b).heap rest.count t self op kind loc h count x → Beside (assembled sites rest).memory.heap t op e e2 → result_of x ≡ result.Enters y
    → AtItsSiteBeside turns (assembled sites rest) e (assembled (with_at sites b (record (sites b) { heap = h; running = with_at (sites b).running t (Some (answering a k used depth self y)); waiting = with_at (sites b).waiting t None }))
    (record rest { count = count; journal = rest.journal ++ entry_of t 0 (Some (act kind loc)) ∷ [] })) e2

-- an act beside which nothing is noted or posted, on an ending that is kept or on the exported names: at home, of a request, and of one that waited
abbrev pub SiteNamesBeside : Type 0
SiteNamesBeside =
    (turns : ℕ) (sites : ℕ → Site) (watch : Watch) (rest : Rest) (s t n : ℕ) (slot : Slot) (u : Term Ref) (op : Operation Ref) (hs : List (Frame Ref)) (kind : ActKind) (loc : ℕ) (names : List (Bytes × Value Ref)) (x : Term Ref)
    → (sites s).running t ≡ Some slot → slot.used + n < turns → after_steps slot.segment.depth slot.segment.self n slot.segment.window ≡ Some u
    → find same_ref slot.segment.depth slot.segment.self u ≡ Needs op hs → Named (sites s).ended rest.names op kind loc names x
    → AtNamesBeside turns op s (assembled sites rest) watch (assembled (with_at sites s (runs_at sites s t (Some (moved slot (n + 1) (plug hs x))))) (record rest { names = names; journal = rest.journal ++ entry_of t n (Some (act kind loc)) ∷ [] })) watch

abbrev pub SiteServesNamesBeside : Type 0
SiteServesNamesBeside =
    (turns : ℕ) (sites : ℕ → Site) (watch : Watch) (rest : Rest) (a b t k used depth : ℕ) (self : Self Ref) (op : Operation Ref) (ps : List Packet) (kind : ActKind) (loc : ℕ) (names : List (Bytes × Value Ref)) (x : Term Ref) (o : Outcome Ref)
    → rest.lines a b ≡ Request t k used depth self op ∷ ps → Named (sites b).ended rest.names op kind loc names x → result_of x ≡ Gives o
    → AtNamesBeside turns op b (assembled sites rest) watch (assembled sites (record rest { names = names; lines = posted (at2 rest.lines a b ps) b a (Reply t k (used + 1) o); journal = rest.journal ++ entry_of t 0 (Some (act kind loc)) ∷ [] })) watch

abbrev pub SiteRetriesNamesBeside : Type 0
SiteRetriesNamesBeside =
    (turns : ℕ) (sites : ℕ → Site) (watch : Watch) (rest : Rest) (a b t k used depth : ℕ) (self : Self Ref) (op : Operation Ref) (kind : ActKind) (loc : ℕ) (names : List (Bytes × Value Ref)) (x : Term Ref) (o : Outcome Ref)
    → (sites b).waiting t ≡ Some (record { from = a; packet = Request t k used depth self op }) → Named (sites b).ended rest.names op kind loc names x → result_of x ≡ Gives o
    → AtNamesBeside turns op b (assembled sites rest) watch (assembled (with_at sites b (record (sites b) { waiting = with_at (sites b).waiting t None }))
    (record rest { names = names; lines = posted rest.lines b a (Reply t k (used + 1) o); journal = rest.journal ++ entry_of t 0 (Some (act kind loc)) ∷ [] })) watch
