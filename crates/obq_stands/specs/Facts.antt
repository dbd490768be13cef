-- What is known of cells, threads and turns in a World that stands for a replay: what the conditions of a site's act ask for.
use Rattle.std.specs.Prelude.{List, Some, false, if◌then◌else◌, length, max, nat_lt, slice_get, suc, true, zero, ℕ, ◌+◌, ◌*◌, ◌<◌, ◌≡◌, ◌≤◌, ◌⊎◌}
use Rattle.obq_base.specs.declared.acts.Report.{Report}
use Rattle.obq_base.specs.Tree.{BlockTree}
use Rattle.obq_model.specs.Terms.{LocKind, Term}
use Rattle.obq_model.specs.Cells.{written}
use Rattle.obq_model.specs.Step.{Self, Operation, LineUp, Frame, Needs, find}
use Rattle.obq_model.specs.Config.{Config}
use Rattle.obq_model.specs.Effect.{line_of, in_line}
use Rattle.obq_model.specs.OneCell.{owner_of}
use Rattle.obq_model.specs.Replay.{output, report}
use Rattle.obq_laws.specs.Known.{Numbered, location_kind, IsKnownCell, IsKnownOperation, IsKnown}
use Rattle.obq_laws.specs.Lines.{count_in}
use Rattle.obq_laws.specs.Locality.{needs_owner}
use Rattle.obq_stands.specs.World.{Ref, same_ref, Born, Heap, Slot, Packet, Request, Reply, ByValue, ByException, World, wire}
use Rattle.obq_stands.specs.Stands.{Stands, StandsFor, Place, Nowhere, Absent, At, InLine, WaitsAt, EndedAt, HasPlace}
use Rattle.obq_stands.specs.Events.{Step, Takes, writer_at, world_at}
use Rattle.obq_stands.specs.Over.{AtHome}
use Rattle.obq_stands.specs.Watch.{Watch}
use Rattle.obq_stands.specs.Joined.{WatchStep, WatchStands}

-- thread t does this operation next: it stands next in a segment that runs, or a request for it is taken from a line or waited
pub data IsNext (w : World) (t : ℕ) : Operation Ref → Type 0 where
  InSegment : (s : ℕ) (slot : Slot) (op : Operation Ref) (hs : List (Frame Ref)) → w.running s t ≡ Some slot → find same_ref slot.segment.depth slot.segment.self slot.segment.window ≡ Needs op hs → IsNext w t op
  InRequest : (a b k used depth : ℕ) (self : Self Ref) (op : Operation Ref) (w1 : World) → Takes w a b (Request t k used depth self op) w1 → IsNext w t op

-- ---- owners and lines

-- where a method that holds a mutex is left next, or a watch lines up or gives the mutex up, the object is there, at whatever site, and the thread owns it
abbrev pub OwnerKnown : Type 0
OwnerKnown =
    (trees : List BlockTree) (turns : ℕ) (w : World) (t : ℕ) (op : Operation Ref) (o : Ref) → StandsFor trees turns w → IsNext w t op → needs_owner op ≡ Some o
    → (x : Born) × (w.memory.heap o ≡ Some x) × (owner_of (Some x.cell) ≡ Some t)

-- a thread in a condition's line is there, and stands in it once
abbrev pub LineKnown : Type 0
LineKnown =
    (trees : List BlockTree) (turns : ℕ) (w : World) (q : Ref) (y : Born) (u : ℕ) → StandsFor trees turns w → w.memory.heap q ≡ Some y → in_line u (line_of (Some y.cell)) ≡ true
    → (u < w.threads) × (count_in u (line_of (Some y.cell)) ≡ 1)

-- it stands in the line of no other condition, at whatever site
abbrev pub OneLineKnown : Type 0
OneLineKnown =
    (trees : List BlockTree) (turns : ℕ) (w : World) (q r : Ref) (y z : Born) (u : ℕ) → StandsFor trees turns w → w.memory.heap q ≡ Some y → w.memory.heap r ≡ Some z
    → in_line u (line_of (Some y.cell)) ≡ true → in_line u (line_of (Some z.cell)) ≡ true → q ≡ r

-- a thread that lines up isn't in a line yet
abbrev pub NotYetInLine : Type 0
NotYetInLine =
    (trees : List BlockTree) (turns : ℕ) (w : World) (t : ℕ) (o c : Ref) (guard : Term Ref) (q : Ref) (y : Born) → StandsFor trees turns w → IsNext w t (LineUp o c guard) → w.memory.heap q ≡ Some y
    → in_line t (line_of (Some y.cell)) ≡ false

-- ---- bounds

-- cells, threads and turns are bounded by the sites and the limits
pub record IsBounded (sites turns : ℕ) (w : World) : Type 0 where
  pub cells : w.memory.count ≤ sites + w.threads * turns
  pub numbers : (r : Ref) (x : Born) → w.memory.heap r ≡ Some x → x.born < w.memory.count
  pub threads : w.threads ≤ max 64 sites
  pub used : (s t : ℕ) (slot : Slot) → w.running s t ≡ Some slot → (t < w.threads) × (slot.used ≤ turns)

abbrev pub BoundsKnown : Type 0
BoundsKnown = (trees : List BlockTree) (turns : ℕ) (w : World) → StandsFor trees turns w → IsBounded (length trees) turns w

-- ---- kinds, members, depths

-- there is a cell of this kind at a reference
abbrev pub IsCellOf : Heap → LocKind → Ref → Type 0
IsCellOf h kind r = (x : Born) × (h r ≡ Some x) × (location_kind x.cell ≡ kind)

-- in the next operation each reference names a cell of its kind, each thread number a thread, each member index a member, and no closure lies too deep. A request
-- has what it carries of such an operation.
abbrev pub NextKnown : Type 0
NextKnown =
    (trees : List BlockTree) (turns : ℕ) (w : World) (t : ℕ) (op : Operation Ref) → StandsFor trees turns w → IsNext w t op
    → (asked : Operation Ref) × ((op ≡ asked) ⊎ (op ≡ wire asked)) × IsKnownOperation (IsCellOf w.memory.heap) (Numbered trees w.threads) asked

-- so in what each cell holds, and no array is too long
abbrev pub CellKnown : Type 0
CellKnown = (trees : List BlockTree) (turns : ℕ) (w : World) (r : Ref) (x : Born) → StandsFor trees turns w → w.memory.heap r ≡ Some x → IsKnownCell (IsCellOf w.memory.heap) (Numbered trees w.threads) x.cell

-- so in each window that runs
abbrev pub WindowKnown : Type 0
WindowKnown =
    (trees : List BlockTree) (turns : ℕ) (w : World) (s t : ℕ) (slot : Slot) → StandsFor trees turns w → w.running s t ≡ Some slot
    → IsKnown (IsCellOf w.memory.heap) (Numbered trees w.threads) slot.segment.window

-- ---- cells that stay, and the sites' writers

-- no event takes a cell away, or gives it another number
abbrev pub CellsStay : Type 0
CellsStay = (turns : ℕ) (w x : World) (r : Ref) (y : Born) → Step turns w x → w.memory.heap r ≡ Some y → (z : Born) × (x.memory.heap r ≡ Some z) × (z.born ≡ y.born)

-- the writer of each of these sites is the cell with its site's number
abbrev pub HasWriters : ℕ → World → Type 0
HasWriters sites w = (k : ℕ) → k < sites → (x : Born) × (w.memory.heap (writer_at k) ≡ Some x) × (x.born ≡ k)

-- so at the start, and each event keeps it
abbrev pub WritersBegin : Type 0
WritersBegin = (xs : List (Term Ref)) → HasWriters (length xs) (world_at xs)

abbrev pub WritersKept : Type 0
WritersKept = (turns sites : ℕ) (w x : World) → HasWriters sites w → Step turns w x → HasWriters sites x

abbrev pub WatchWritersKept : Type 0
WatchWritersKept = (trees : List BlockTree) (turns sites : ℕ) (w x : World) (e e2 : Watch) → WatchStands trees turns w e → HasWriters sites w → WatchStep turns w e x e2 → HasWriters sites x

-- so the output of a site is the text of its writer
abbrev pub OutputKnown : Type 0
OutputKnown =
    (turns sites : ℕ) (w : World) (c : Config) (k : ℕ) (x : Born) → Stands turns w c → HasWriters sites w → k < sites → w.memory.heap (writer_at k) ≡ Some x → slice_get (output sites c) k ≡ Some (written (Some x.cell))

-- ---- the report

-- the turns that the thread of a packet has used
abbrev pub used_of : Packet → ℕ
used_of (Request t k used depth self op) = used
used_of (Reply t k used o) = used

-- a thread that hasn't ended waits, or has spent its turns
abbrev pub count_unended : (turns used : ℕ) → Report → Report
count_unended turns used r = if nat_lt used turns then record r { waiting = suc r.waiting } else record r { spent = suc r.spent }

-- the thread at this place, counted
abbrev pub count_place : ℕ → Place → Report → Report
count_place turns (At s slot) r = count_unended turns slot.used r
count_place turns (InLine a b p) r = count_unended turns (used_of p) r
count_place turns (WaitsAt b x) r = count_unended turns (used_of x.packet) r
count_place turns (EndedAt s (ByValue v)) r = record r { ended = suc r.ended }
count_place turns (EndedAt s (ByException e)) r = record r { raised = suc r.raised }
count_place turns Nowhere r = r
count_place turns Absent r = r

-- n threads from t on, counted
abbrev pub report_from : ℕ → (ℕ → Place) → ℕ → ℕ → Report
report_from turns place t zero = record { ended = 0; raised = 0; waiting = 0; spent = 0 }
report_from turns place t (suc n) = count_place turns (place t) (report_from turns place (suc t) n)

-- the thread is at this place
abbrev pub IsAtPlace : World → ℕ → Place → Type 0
IsAtPlace w t Nowhere = ⊥
IsAtPlace w t Absent = ⊥
IsAtPlace w t place = HasPlace w.running w.waiting w.ended w.lines t place

-- the report of the configuration is that of the places where its threads are
abbrev pub ReportKnown : Type 0
ReportKnown = (turns : ℕ) (w : World) (c : Config) (place : ℕ → Place) → Stands turns w c → ((t : ℕ) → t < w.threads → IsAtPlace w t (place t)) → report turns c ≡ report_from turns place 0 w.threads

-- ---- homes, with watches

abbrev pub WatchHomesKept : Type 0
WatchHomesKept =
    (trees : List BlockTree) (turns : ℕ) (w x : World) (e e2 : Watch) (home : ℕ → ℕ) → WatchStands trees turns w e → AtHome w home → WatchStep turns w e x e2
    → (home2 : ℕ → ℕ) × AtHome x home2 × ((u : ℕ) → u < w.threads → home2 u ≡ home u)
