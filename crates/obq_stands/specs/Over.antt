-- Where nobody can go in the World, nobody can go in the configuration.
use Rattle.std.specs.Prelude.{Bool, List, Option, Some, None, [], true, ℕ, nat_lt, ◌<◌, ◌≡◌}
use Rattle.obq_base.specs.Tree.{BlockTree}
use Rattle.obq_model.specs.Terms.{Bytes, Term}
use Rattle.obq_model.specs.Store.{exported}
use Rattle.obq_model.specs.Step.{Self, Operation, JoinWith, Again, Import, Frame, Needs, find, self_at}
use Rattle.obq_model.specs.Config.{Config}
use Rattle.obq_model.specs.Effect.{in_line, line_of}
use Rattle.obq_model.specs.Cells.{cell_row, again_row, import_row}
use Rattle.obq_model.specs.Replay.{replay, IsOver}
use Rattle.obq_stands.specs.World.{with_at, Ref, same_ref, Born, Memory, Slot, Suspended, Packet, Request, Reply, Parked, Ending, World, Idle, Ends, MayAsk}
use Rattle.obq_stands.specs.Stands.{Stands, StandsFor}
use Rattle.obq_stands.specs.Events.{Step, Forks, Run, Begin, Then, windows, world_at}
use Rattle.obq_model.specs.OneCell.{cell_of}

-- the operation of thread t with the current self s is tried where it is done, and waits
pub data Waits (m : Memory) (en : ℕ → ℕ → Option Ending) (t : ℕ) (s : Self Ref) : Operation Ref → Type 0 where
  OnCellWaits : (op : Operation Ref) (r : Ref) (x : Born) → cell_of op ≡ Some r → m.heap r ≡ Some x → cell_row same_ref Ends Idle t s op (Some x.cell) ≡ Idle → Waits m en t s op
  RetakeWaits : (o c : Ref) (guard : Term Ref) (x y : Born) → m.heap o ≡ Some x → m.heap c ≡ Some y → again_row Ends Idle t (in_line t (line_of (Some y.cell))) o c guard (Some x.cell) ≡ Idle → Waits m en t s (Again o c guard)
  -- no ending of thread u is kept
  JoinWaits : (u : ℕ) → ((b : ℕ) → en b u ≡ None) → Waits m en t s (JoinWith u)
  ImportWaits : (x : Bytes) (engine : Bool) → import_row Ends Idle engine (exported x m.names) ≡ Idle → Waits m en t s (Import x engine)

-- a segment has used its thread's turns, or waits in an act at its site
abbrev pub HasStopped : (turns : ℕ) → Memory → (ℕ → ℕ → Option Ending) → ℕ → Slot → Type 0
HasStopped turns m en t slot =
    nat_lt slot.used turns ≡ true → (op : Operation Ref) × (hs : List (Frame Ref)) × (find same_ref slot.segment.depth slot.segment.self slot.segment.window ≡ Needs op hs) × Waits m en t (self_at slot.segment.self hs) op

abbrev pub IsStuck : Memory → (ℕ → ℕ → Option Ending) → Packet → Type 0
IsStuck m en (Request t k used depth self op) = MayAsk op × Waits m en t self op
IsStuck m en (Reply t k used o) = ⊥

-- no line holds anything, and neither a segment nor a waiting request can go
pub record IsIdle (turns : ℕ) (w : World) : Type 0 where
  pub lines : (a b : ℕ) → w.lines a b ≡ []
  pub runs : (s t : ℕ) (slot : Slot) → w.running s t ≡ Some slot → HasStopped turns w.memory w.ended t slot
  pub waits : (s t : ℕ) (x : Parked) → w.waiting s t ≡ Some x → IsStuck w.memory w.ended x.packet

-- then the configuration is over
abbrev pub IdleIsOver : Type 0
IdleIsOver = (turns : ℕ) (w : World) (c : Config) → Stands turns w c → IsIdle turns w → IsOver turns c

-- so the journal replays to a configuration that is over
abbrev pub IdleReplaysOver : Type 0
IdleReplaysOver = (trees : List BlockTree) (turns : ℕ) (w : World) → StandsFor trees turns w → IsIdle turns w → (c : Config) × (replay trees turns w.journal ≡ Some c) × IsOver turns c

-- ---- homes: where a thread's bottom is, and its ending is kept

pub record AtHome (w : World) (home : ℕ → ℕ) : Type 0 where
  pub runs : (s t : ℕ) (slot : Slot) → w.running s t ≡ Some slot → slot.segment.answers ≡ None → s ≡ home t
  pub pends : (s k : ℕ) (e : Suspended) → w.pending s k ≡ Some e → e.segment.answers ≡ None → s ≡ home e.thread
  pub known : (s k : ℕ) (e : Suspended) → w.pending s k ≡ Some e → e.thread < w.threads
  pub ends : (s t : ℕ) (e : Ending) → w.ended s t ≡ Some e → s ≡ home t

-- the homes behind an event: a new thread's is the site where it was forked
abbrev pub home_behind : {turns : ℕ} {w x : World} → Step turns w x → (ℕ → ℕ) → ℕ → ℕ
home_behind (Forks w s t n slot u v hs is few e needs room) home = with_at home w.threads s
home_behind e home = home

-- each event keeps it; a thread that is there keeps its home
abbrev pub HomesKept : Type 0
HomesKept = (trees : List BlockTree) (turns : ℕ) (w x : World) (home : ℕ → ℕ) → StandsFor trees turns w → AtHome w home → (e : Step turns w x) → AtHome x (home_behind e home) × ((u : ℕ) → u < w.threads → home_behind e home u ≡ home u)

-- the homes behind a list of events: thread k of the opening has its home at site k
abbrev pub homes_of : {turns : ℕ} {w x : World} → Run turns w x → ℕ → ℕ
homes_of Begin = λ t. t
homes_of (Then r e) = home_behind e (homes_of r)

-- behind every list of events each thread is at home there
abbrev pub EveryRunAtHome : Type 0
EveryRunAtHome = (trees : List BlockTree) (turns : ℕ) (w : World) (r : Run turns (world_at (windows 0 trees)) w) → AtHome w (homes_of r)

-- at the start thread k has its home at site k
abbrev pub HomesBegin : Type 0
HomesBegin = (windows : List (Term Ref)) → AtHome (world_at windows) (λ t. t)

-- so a join waits where no ending is kept at the joined thread's home
abbrev pub JoinAtHome : Type 0
JoinAtHome = (w : World) (home : ℕ → ℕ) (t u : ℕ) (s : Self Ref) → AtHome w home → w.ended (home u) u ≡ None → Waits w.memory w.ended t s (JoinWith u)
