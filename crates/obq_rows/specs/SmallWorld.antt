-- A World of several sites that is computed: its events as a function of a list of choices. A choice that can't be taken changes nothing.
use Rattle.std.specs.Prelude.{Bool, List, None, Option, Some, [], false, if◌then◌else◌, length, map, min, nat_le, nat_lt, reverse, slice_index_or, suc, take, true, zero, ℕ, ◌&&◌, ◌++◌, ◌+◌, ◌-◌, ◌==◌, ◌∷◌}
use Rattle.obq_base.specs.declared.acts.ActKind.{ActKind}
use Rattle.obq_base.specs.declared.acts.Act.{Act}
use Rattle.obq_base.specs.declared.acts.Entry.{Entry}
use Rattle.obq_base.specs.declared.limits.TheConstants.{THREAD_LIMIT}
use Rattle.obq_base.specs.Tree.{BlockTree}
use Rattle.obq_model.specs.Terms.{Bytes, LocKind, Object, Array, Variable, Writer, Condition, Engine, Raised, Exn, ExitUp, Value, Okay, Thread, Term, Const}
use Rattle.obq_model.specs.Exceptions.{exit_outside, fork_limit}
use Rattle.obq_model.specs.Store.{Cell, ObjectCell, ArrayCell, VariableCell, WriterCell, ConditionCell, EngineCell, exported, export}
use Rattle.obq_model.specs.Step.{Self, Operation, New, ForkOff, JoinWith, LineUp, Again, Signal, Broadcast, Export, Import, Frame, plug, Found, Next, Needs, Done, Uncaught, find, next_of, self_at, activations_at}
use Rattle.obq_model.specs.Config.{act}
use Rattle.obq_model.specs.Effect.{in_line, line_of}
use Rattle.obq_model.specs.OneCell.{cell_of}
use Rattle.obq_model.specs.Replay.{kind_same}
use Rattle.obq_model.specs.Cells.{cell_row, again_row, import_row, after_new, written}
use Rattle.obq_model.specs.Located.{Message, message, located_opening, located_replay, Link, Sent, links, first_sites}
use Rattle.obq_stands.specs.World.{at2, Ref, same_ref, Born, Memory, with_left, with_made, PendingCall, Slot, Suspended, Outcome, Answer, RaisedUp, Gives, Enters, wire, answer_term, Result, result_of, Packet, Request, Reply, thread_of, Parked, Ending, ByValue, ByException, ending_term, World, without, start, settle, post, with_line, park, pend, with_memory, one_thread_more, note, Row, Idle, Ends}
use Rattle.obq_stands.specs.Events.{with_window, moved, calling, answering, windows, world_at, writer_at}
use Rattle.obq_stands.specs.Joined.{no_watch}
use Rattle.obq_stands.specs.Watch.{Watch, post_one}
use Rattle.obq_rows.specs.Schedule.{entry, result}
use Rattle.obq_rows.specs.Schedule as schedule

-- a World, its notes and wakes, the homes of its threads, and the requests and replies that were posted, latest first
pub record Small : Type 0 where
  pub world : World
  pub watch : Watch
  pub homes : List ℕ
  pub requests : List Message
  pub replies : List Message

-- how many sites and turns there are; the name server is the site after the last
pub record Size : Type 0 where
  pub sites : ℕ
  pub turns : ℕ

-- a commit of the thread's segment at this site, with at most so many pure steps and the act behind them; the first packet of a line, and the first wake; a request that waits
pub data Choice : Type 0 where
  Commit : (site thread steps : ℕ) → Choice
  Deliver : (from to : ℕ) → Choice
  Wake : (from to : ℕ) → Choice
  Retry : (site thread : ℕ) → Choice

-- ---- an operation where it is done

-- it waits, or is this act, which leaves this memory and this term at the focus
pub data Doing : Type 0 where
  Waits : Doing
  Acts : ActKind → (loc : ℕ) → Memory → (focus : Term Ref) → Doing

abbrev pub of_row : Row Ref → (loc : ℕ) → (Option (Cell Ref) → Memory) → Doing
of_row Idle loc left = Waits
of_row (Ends kind cell focus) loc left = Acts kind loc (left cell) focus

abbrev pub on_ref : Memory → ℕ → Self Ref → Operation Ref → Ref → Option Born → Doing
on_ref m t s op r None = Waits
on_ref m t s op r (Some x) = of_row (cell_row same_ref Ends Idle t s op (Some x.cell)) x.born (with_left m r x.born)

-- the mutex of an object is taken again: with the condition here, by its line; with the condition at another site, by the noted wake
abbrev pub on_two : Memory → ℕ → Ref → Ref → Term Ref → Option Born → Option Born → Doing
on_two m t o c guard (Some x) (Some y) = of_row (again_row Ends Idle t (in_line t (line_of (Some y.cell))) o c guard (Some x.cell)) x.born (with_left m o x.born)
on_two m t o c guard x y = Waits

abbrev pub on_wake : Memory → ℕ → Ref → Ref → Term Ref → Option Born → Option Parked → Doing
on_wake m t o c guard (Some x) (Some k) = of_row (again_row Ends Idle t false o c guard (Some x.cell)) x.born (with_left m o x.born)
on_wake m t o c guard x k = Waits

abbrev pub on_ending : Memory → ℕ → Option Ending → Doing
on_ending m u None = Waits
on_ending m u (Some e) = Acts ActKind.Join u m (ending_term e)

abbrev pub on_cell_of : Memory → ℕ → Self Ref → Operation Ref → Option Ref → Doing
on_cell_of m t s op None = Waits
on_cell_of m t s op (Some r) = on_ref m t s op r (m.heap r)

abbrev pub kind_of : Cell Ref → LocKind
kind_of (ObjectCell flags owner fields) = Object
kind_of (ArrayCell vs) = Array
kind_of (VariableCell v) = Variable
kind_of (WriterCell bytes) = Writer
kind_of (ConditionCell line) = Condition
kind_of (EngineCell v) = Engine

-- a new cell of this site has the number of its allocation as its index
abbrev pub new_ref : Memory → ℕ → Cell Ref → Ref
new_ref m site cell = record { site = site; kind = kind_of cell; index = m.count }

abbrev pub home_of : Small → ℕ → ℕ
home_of x u = slice_index_or x.homes u 0

-- at this site, by thread t with the current self s
abbrev pub doing : Small → (site : ℕ) → ℕ → Self Ref → Operation Ref → Doing
doing x site t s (New cell after) = Acts ActKind.New x.world.memory.count (with_made x.world.memory (new_ref x.world.memory site cell) cell) (after_new after (new_ref x.world.memory site cell) cell)
doing x site t s (Again o c guard) =
    if o.site == c.site then on_two x.world.memory t o c guard (x.world.memory.heap o) (x.world.memory.heap c)
    else on_wake x.world.memory t o c guard (x.world.memory.heap o) (x.watch.noted o.site t)
doing x site t s (JoinWith u) = on_ending x.world.memory u (x.world.ended (home_of x u) u)
doing x site t s (Export name v) = Acts ActKind.Export 0 (record x.world.memory { names = export name v x.world.memory.names }) (Const Okay)
doing x site t s (Import name engine) = of_row (import_row Ends Idle engine (exported name x.world.memory.names)) 0 (λ cell. x.world.memory)
doing x site t s (ForkOff v) = if nat_le THREAD_LIMIT x.world.threads then Acts ActKind.Fork THREAD_LIMIT x.world.memory fork_limit else Waits
doing x site t s op = on_cell_of x.world.memory t s op (cell_of op)

-- the threads of a condition's line
abbrev pub line_at : Option Born → List ℕ
line_at None = []
line_at (Some x) = line_of (Some x.cell)

-- this thread of the line of the condition c is woken, at the object that is noted of it
abbrev pub woken_at : Ref → ℕ → Option Ref → Watch → Watch
woken_at c u None e = e
woken_at c u (Some o) e = post_one c u o e

abbrev pub all_woken : Ref → List ℕ → Watch → Watch
all_woken c [] e = e
all_woken c (u ∷ us) e = all_woken c us (woken_at c u (e.notes c.site u) e)

-- what becomes of notes and wakes beside an operation of thread t
abbrev pub beside : Memory → ℕ → Operation Ref → Watch → Watch
beside m t (LineUp o c guard) e = record e { notes = at2 e.notes c.site t (Some o) }
beside m t (Again o c guard) e = if o.site == c.site then e else record e { noted = at2 e.noted o.site t None }
beside m t (Signal c) e = all_woken c (take 1 (line_at (m.heap c))) e
beside m t (Broadcast c) e = all_woken c (line_at (m.heap c)) e
beside m t op e = e

abbrev pub site_or : ℕ → Option Ref → ℕ
site_or here None = here
site_or here (Some r) = r.site

-- the site of an operation that stands next at the site `here`
abbrev pub site_of : Size → Small → (here : ℕ) → Operation Ref → ℕ
site_of z x here (JoinWith u) = home_of x u
site_of z x here (Export name v) = z.sites
site_of z x here (Import name engine) = z.sites
site_of z x here (Again o c guard) = o.site
site_of z x here op = site_or here (cell_of op)

-- ---- events

abbrev pub with_world : Small → World → Small
with_world x w = record x { world = w }

-- with what is beside an operation of thread t, done at this World
abbrev pub watched : Small → ℕ → Operation Ref → Small
watched x t op = record x { watch = beside x.world.memory t op x.watch }

-- a request from a to b, and a reply
abbrev pub posts_request : Small → ℕ → ℕ → Packet → Small
posts_request x a b p = record x { world = post x.world a b p; requests = message a b ++ x.requests }

abbrev pub posts_reply : Small → ℕ → ℕ → Packet → Small
posts_reply x a b p = record x { world = post x.world a b p; replies = message a b ++ x.replies }

-- at most n pure steps of a window, and how many there were
abbrev pub walked : ℕ → (depth : ℕ) → Self Ref → Term Ref → ℕ × Term Ref
walked zero depth s y = (0, y)
walked (suc n) depth s y =
    elim (next_of (find same_ref depth s y)) [
      | None ↦ (0, y)
      | Some u ↦ (suc (walked n depth s u).0, (walked n depth s u).1)
    ]

-- an entry, where it has a step or an act
abbrev pub noted : World → ℕ → ℕ → Option Act → World
noted w t zero None = w
noted w t n a = note w (entry t n a)

-- n pure steps alone
abbrev pub stepped : Small → ℕ → ℕ → ℕ → Slot → Term Ref → Small
stepped x s t n slot u = with_world x (noted (start x.world s t (moved slot n u)) t n None)

abbrev pub acted : Small → ℕ → ℕ → ℕ → Slot → Term Ref → Operation Ref → List (Frame Ref) → Doing → Small
acted x s t n slot u op hs Waits = stepped x s t n slot u
acted x s t n slot u op hs (Acts kind loc m focus) = with_world (watched x t op) (note (start (with_memory x.world m) s t (moved slot (n + 1) (plug hs focus))) (entry t n (Some (act kind loc))))

abbrev pub forked : Small → ℕ → ℕ → ℕ → Slot → Value Ref → List (Frame Ref) → Small
forked x s t n slot v hs =
    record x {
      world = note (start (one_thread_more (start x.world s t (moved slot (n + 1) (plug hs (Const (Thread x.world.threads)))))) s x.world.threads (calling v)) (entry t n (Some (act ActKind.Fork x.world.threads)));
      homes = x.homes ++ s ∷ [];
    }

-- the first of these calls that isn't pending
abbrev pub free_call : (fuel : ℕ) → (ℕ → Option Suspended) → ℕ → ℕ
free_call zero pending k = k
free_call (suc fuel) pending k = elim (pending k) [ None ↦ k | Some e ↦ free_call fuel pending (suc k) ]

-- the request of a segment at site s, whose window needs this operation at another site
abbrev pub asked : Small → ℕ → ℕ → ℕ → Slot → Operation Ref → List (Frame Ref) → Small
asked x s t to slot op hs =
    let k : ℕ = free_call 100 (x.world.pending s) 0 in
    posts_request (with_world x (pend (without x.world s t) s k (Some (record { thread = t; segment = slot.segment })))) s to
    (Request t k slot.used (activations_at slot.segment.depth hs) (self_at slot.segment.self hs) (wire op))

abbrev pub committed_op : Size → Small → ℕ → ℕ → ℕ → Slot → Term Ref → Operation Ref → List (Frame Ref) → Small
committed_op z x s t n slot u op hs =
    if site_of z x s op == s then acted x s t n slot u op hs (doing x s t (self_at slot.segment.self hs) op)
    else asked (stepped x s t n slot u) s t (site_of z x s op) (moved slot n u) op hs

-- a thread or a segment is at its bottom
abbrev pub ended_by : Small → ℕ → ℕ → ℕ → Slot → Term Ref → Ending → Outcome Ref → Option PendingCall → Small
ended_by x s t n slot u e o None = with_world x (note (settle (without x.world s t) s t e) (entry t n (Some (act ActKind.End t))))
ended_by x s t n slot u e o (Some call) =
    let y : Small = stepped x s t n slot u in posts_reply (with_world y (without y.world s t)) s call.site (Reply t call.number (slot.used + n) o)

abbrev pub ending_of : Raised → Ending
ending_of (Exn e) = ByException e
ending_of ExitUp = ByException exit_outside

-- what stands next behind n pure steps
abbrev pub committed_found : Size → Small → ℕ → ℕ → ℕ → Slot → Term Ref → Found Ref → Small
committed_found z x s t n slot u (Next v) = stepped x s t n slot u
committed_found z x s t n slot u (Needs (ForkOff v) hs) =
    if nat_le THREAD_LIMIT x.world.threads then acted x s t n slot u (ForkOff v) hs (doing x s t (self_at slot.segment.self hs) (ForkOff v)) else forked x s t n slot v hs
committed_found z x s t n slot u (Needs op hs) = committed_op z x s t n slot u op hs
committed_found z x s t n slot u (Done v) = ended_by x s t n slot u (ByValue v) (Answer v) slot.segment.answers
committed_found z x s t n slot u (Uncaught r) = ended_by x s t n slot u (ending_of r) (RaisedUp r) slot.segment.answers

-- no more steps than turns are left, and an act only where one is left behind them
abbrev pub committed_slot : Size → Small → ℕ → ℕ → ℕ → Slot → Small
committed_slot z x s t steps slot =
    let r : ℕ × Term Ref = walked (min steps (z.turns - slot.used)) slot.segment.depth slot.segment.self slot.segment.window in
    if nat_lt (slot.used + r.0) z.turns then committed_found z x s t r.0 slot r.1 (find same_ref slot.segment.depth slot.segment.self r.1) else stepped x s t r.0 slot r.1

-- the result of a request's act at site b: a reply, or an activation that begins
abbrev pub served_as : Small → (a b t k used depth : ℕ) → Self Ref → ActKind → ℕ → Memory → Result Ref → Small
served_as x a b t k used depth s kind loc m (Gives o) =
    let y : Small = posts_reply (with_world x (with_memory x.world m)) b a (Reply t k (used + 1) o) in with_world y (note y.world (entry t 0 (Some (act kind loc))))
served_as x a b t k used depth s kind loc m (Enters u) = with_world x (note (start (with_memory x.world m) b t (answering a k used depth s u)) (entry t 0 (Some (act kind loc))))

abbrev pub served : Small → (otherwise : Small) → (a b t k used depth : ℕ) → Self Ref → Operation Ref → Doing → Small
served x otherwise a b t k used depth s op Waits = otherwise
served x otherwise a b t k used depth s op (Acts kind loc m focus) = served_as (watched x t op) a b t k used depth s kind loc m (result_of focus)

abbrev pub resumed_found : Small → ℕ → ℕ → ℕ → Suspended → Outcome Ref → ℕ → Found Ref → Small
resumed_found x b t k e o used (Needs op hs) = with_world x (start (pend x.world b k None) b t (record { segment = with_window e.segment (plug hs (answer_term op o)); used = used }))
resumed_found x b t k e o used found = x

abbrev pub resumed : Small → ℕ → ℕ → ℕ → Outcome Ref → ℕ → Option Suspended → Small
resumed x b t k o used None = x
resumed x b t k o used (Some e) = resumed_found x b t k e o used (find same_ref e.segment.depth e.segment.self e.segment.window)

-- a packet that was taken from a line
abbrev pub received : Small → (a b : ℕ) → Packet → Small
received x a b (Request t k used depth s op) =
    served x (with_world x (park x.world b t (Some (record { from = a; packet = Request t k used depth s op })))) a b t k used depth s op (doing x b t s op)
received x a b (Reply t k used o) = resumed x b t k o used (x.world.pending b k)

abbrev pub delivered : Small → ℕ → ℕ → List Packet → Small
delivered x a b [] = x
delivered x a b (p ∷ ps) = received (with_world x (with_line x.world a b ps)) a b p

-- a wake arrives, and is noted
abbrev pub awoken : Small → ℕ → ℕ → List Packet → Small
awoken x a b [] = x
awoken x a b (p ∷ ps) = record x { watch = record x.watch { wakes = at2 x.watch.wakes a b ps; noted = at2 x.watch.noted b (thread_of p) (Some (record { from = 0; packet = p })) } }

-- a request that waits is tried again
abbrev pub retried_packet : Small → ℕ → ℕ → ℕ → Packet → Small
retried_packet x b t a (Request t2 k used depth s op) = served (with_world x (park x.world b t None)) x a b t2 k used depth s op (doing x b t2 s op)
retried_packet x b t a (Reply t2 k used o) = x

abbrev pub retried : Small → ℕ → ℕ → Option Parked → Small
retried x b t None = x
retried x b t (Some p) = retried_packet x b t p.from p.packet

abbrev pub committed : Size → Small → ℕ → ℕ → ℕ → Option Slot → Small
committed z x s t steps None = x
committed z x s t steps (Some slot) = committed_slot z x s t steps slot

abbrev pub event : Size → Small → Choice → Small
event z x (Commit s t steps) = committed z x s t steps (x.world.running s t)
event z x (Deliver a b) = delivered x a b (x.world.lines a b)
event z x (Wake a b) = awoken x a b (x.watch.wakes a b)
event z x (Retry b t) = retried x b t (x.world.waiting b t)

abbrev pub events : Size → List Choice → Small → Small
events z [] x = x
events z (c ∷ cs) x = events z cs (event z x c)

-- ---- schedules

-- each of these numbers with each of those
abbrev pub with_each : (ℕ → Choice) → List ℕ → List Choice → List Choice
with_each f [] rest = rest
with_each f (n ∷ ns) rest = f n ∷ with_each f ns rest

abbrev pub pairs : (ℕ → ℕ → Choice) → List ℕ → List ℕ → List Choice
pairs f [] ns = []
pairs f (m ∷ ms) ns = with_each (f m) ns (pairs f ms ns)

-- each thread at each site, each line, and each request that waits
abbrev pub commits : (steps sites threads : ℕ) → List Choice
commits steps sites threads = pairs (λ s t. Commit s t steps) (first_sites 0 sites) (first_sites 0 threads)

abbrev pub deliveries : ℕ → List Choice
deliveries sites = pairs Deliver (first_sites 0 (suc sites)) (first_sites 0 (suc sites))

abbrev pub retries : (sites threads : ℕ) → List Choice
retries sites threads = pairs Retry (first_sites 0 (suc sites)) (first_sites 0 threads)

abbrev pub wakes : ℕ → List Choice
wakes sites = pairs Wake (first_sites 0 sites) (first_sites 0 sites)

-- threads run as far as they can, then packets, requests that wait, and wakes
abbrev pub eager : (sites threads : ℕ) → List Choice
eager sites threads = commits 1000 sites threads ++ deliveries sites ++ retries sites threads ++ wakes sites

-- wakes and packets first, and each thread takes one pure step and an act; all in the other order
abbrev pub patient : (sites threads : ℕ) → List Choice
patient sites threads = reverse (commits 1 sites threads ++ retries sites threads ++ deliveries sites ++ wakes sites)

abbrev pub repeated : ℕ → Size → List Choice → Small → Small
repeated zero z cs x = x
repeated (suc n) z cs x = repeated n z cs (events z cs x)

-- ---- what a run comes to

abbrev pub begun : List BlockTree → Small
begun trees = record { world = world_at (windows 0 trees); watch = no_watch; homes = first_sites 0 (length trees); requests = []; replies = [] }

abbrev pub text_at : Option Born → Bytes
text_at None = []
text_at (Some x) = written (Some x.cell)

abbrev pub cell_text : Small → ℕ → Bytes
cell_text x k = text_at (x.world.memory.heap (writer_at k))

-- what its journal comes to by replay, the texts of its own writers, its own table of requests and replies, and that of the journal's located replay
pub record Ran : Type 0 where
  pub replayed : schedule.Result
  pub texts : List Bytes
  pub posted : List Link
  pub counted : Option (List Link)

abbrev pub ran : List BlockTree → (turns : ℕ) → Small → Ran
ran trees turns x =
    record {
      replayed = result trees turns x.world.journal;
      texts = map (cell_text x) (first_sites 0 (length trees));
      posted = links (length trees) (record (located_opening trees) { requests = x.requests; replies = x.replies });
      counted = elim (located_replay trees turns x.world.journal) [ None ↦ None | Some l ↦ Some (links (length trees) l) ];
    }

-- a program's World behind so many rounds of these choices, and what it comes to
abbrev pub small : (rounds : ℕ) → (ℕ → ℕ → List Choice) → (turns threads : ℕ) → List BlockTree → Small
small rounds order turns threads trees = repeated rounds (record { sites = length trees; turns = turns }) (order (length trees) threads) (begun trees)

abbrev pub run_small : (rounds : ℕ) → (ℕ → ℕ → List Choice) → (turns threads : ℕ) → List BlockTree → Ran
run_small rounds order turns threads trees = ran trees turns (small rounds order turns threads trees)

-- how many acts of the journal are of this kind
abbrev pub acts_of : ActKind → List Entry → ℕ
acts_of kind [] = 0
acts_of kind (e ∷ es) = elim e.act [ None ↦ acts_of kind es | Some a ↦ if kind_same a.kind kind then suc (acts_of kind es) else acts_of kind es ]

-- two tables have the same rows
abbrev pub same_tables : List Link → List Link → Bool
same_tables [] [] = true
same_tables (Sent a b m n ∷ xs) (Sent c d p q ∷ ys) = a == c && b == d && m == p && n == q && same_tables xs ys
same_tables xs ys = false

-- a run's own table is that of the located replay
abbrev pub counts_agree : Ran → Bool
counts_agree r = elim r.counted [ None ↦ false | Some table ↦ same_tables r.posted table ]

-- both agree
abbrev pub both : schedule.Result → List Bytes → List Link → Ran
both r texts table = record { replayed = r; texts = texts; posted = table; counted = Some table }
