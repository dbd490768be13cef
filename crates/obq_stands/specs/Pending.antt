-- Every pending call is a link of its thread's chain.
use Rattle.std.specs.Prelude.{List, None, Option, Some, ℕ, ◌≡◌}
use Rattle.obq_base.specs.Tree.{BlockTree}
use Rattle.obq_model.specs.Config.{Config}
use Rattle.obq_stands.specs.World.{PendingCall, Suspended, Packet, Request, Reply, World}
use Rattle.obq_stands.specs.Stands.{Table, Place, Nowhere, Absent, At, InLine, WaitsAt, EndedAt, Stands}
use Rattle.obq_stands.specs.Events.{Step, Run, windows, world_at}

-- from a call on, along the calls that the suspended segments of thread t answer, this pending call is met
pub data Reaches (p : Table) (t : ℕ) (key : PendingCall) : Option PendingCall → Type 0 where
  Here : (e : Suspended) → p key.site key.number ≡ Some e → e.thread ≡ t → Reaches p t key (Some key)
  Further : (k : PendingCall) (e : Suspended) → p k.site k.number ≡ Some e → e.thread ≡ t → Reaches p t key e.segment.answers → Reaches p t key (Some k)

-- the call of a packet from a to b
abbrev pub call_in : (a b : ℕ) → Packet → PendingCall
call_in a b (Request t k used depth self op) = record { site = a; number = k }
call_in a b (Reply t k used o) = record { site = b; number = k }

-- the call that a thread's running segment answers, or that its packet is for
abbrev pub call_of : Place → Option PendingCall
call_of (At s slot) = slot.segment.answers
call_of (InLine a b p) = Some (call_in a b p)
call_of (WaitsAt b x) = Some (call_in x.from b x.packet)
call_of Nowhere = None
call_of Absent = None
call_of (EndedAt s e) = None

-- from where the thread of a pending call is, its chain leads to that call
abbrev pub Linked : (turns : ℕ) (w : World) (c : Config) → Stands turns w c → Type 0
Linked turns w c st = (s k : ℕ) (e : Suspended) → w.pending s k ≡ Some e → Reaches w.pending e.thread (record { site = s; number = k }) (call_of (st.place e.thread))

-- each event keeps it
abbrev pub LinkedKept : Type 0
LinkedKept = (turns : ℕ) (w x : World) (c d : Config) (st : Stands turns w c) (st2 : Stands turns x d) → Linked turns w c st → Step turns w x → Linked turns x d st2

-- so it is behind every list of events
abbrev pub EveryRunLinked : Type 0
EveryRunLinked = (trees : List BlockTree) (turns : ℕ) (w : World) (c : Config) (st : Stands turns w c) → Run turns (world_at (windows 0 trees)) w → Linked turns w c st
