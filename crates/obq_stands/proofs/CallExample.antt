-- A call of a serialized object at another site and back: thread 0 at site 0 calls a method of an object at site 1, which reads a field of its own. The definitions compute:
-- the mutex is taken and given back there, the object's own read doesn't wait, and three acts stand in the journal.
use Rattle.std.specs.Prelude.{option_map, ℕ, List, Some, None, [], true, false, ◌∷◌, pos, refl, if◌then◌else◌, ◌<◌, ◌+◌, ◌≡◌}
use Rattle.std.proofs.Common.{arith}
use Rattle.obq_base.specs.declared.acts.ActKind.{ActKind}
use Rattle.obq_model.specs.Terms.{Object, Held, Within, Select, Invoke, Int, Loc, IsValue, IsMethod, Fields, Bare, Field, Okay, Name, Term, Const, Form, Part, End}
use Rattle.obq_model.specs.Store.{Cell, ObjectCell, WriterCell}
use Rattle.obq_model.specs.Step.{no_self, Operation, Get, CallMethod, Leave, Frame, Pending}
use Rattle.obq_model.specs.Config.{Running, ThreadState, act}
use Rattle.obq_model.specs.Located.{Located, locate_from}
use Rattle.obq_laws.specs.Determinism.{entry_of}
use Rattle.obq_stands.specs.World.{Ref, same_ref, Memory, with_left, Slot, Answer, Request, Reply, World, without, start, post, with_line, pend, with_memory, note}
use Rattle.obq_stands.specs.Stands.{OnCell}
use Rattle.obq_stands.specs.Events.{first_cell, first_slot, world_at, with_window, moved, answering, OffLine, Asks, Acted, Enters, Returns, Resumes, Run, Begin, Then}
use Rattle.obq_stands.specs.AtSites.{AreSited}
use Rattle.obq_stands.specs.Counts.{left_at, no_tally, tally_run}

abbrev o : Ref
o = record { site = 1; kind = Object; index = 0 }

abbrev fields : Fields Ref
fields = Field (97 ∷ []) (IsMethod ((115 ∷ []) ∷ []) (Form (Select (116 ∷ [])) (Part (Name (115 ∷ [])) End))) (Field (116 ∷ []) (IsValue (Int (pos 40))) Bare)

abbrev free : Cell Ref
free = ObjectCell (record { protected = false; serialized = true }) None fields

abbrev taken : Cell Ref
taken = ObjectCell (record { protected = false; serialized = true }) (Some 0) fields

abbrev call : Term Ref
call = Form (Invoke (97 ∷ [])) (Part (Const (Loc Object o)) End)

abbrev op : Operation Ref
op = CallMethod o (97 ∷ []) []

abbrev slot : Slot
slot = first_slot call

abbrev w0 : World
w0 = record (world_at (call ∷ Const Okay ∷ [])) { memory = record { count = 3; heap = λ r. if same_ref r o then Some (record { born = 2; cell = free }) else first_cell 2 r; names = [] } }

abbrev w1 : World
w1 = post (pend (without w0 0 0) 0 0 (Some (record { thread = 0; segment = slot.segment }))) 0 1 (Request 0 0 0 0 no_self op)

abbrev w2 : World
w2 = with_line w1 0 1 []

abbrev m1 : Memory
m1 = with_left w1.memory o 2 (Some taken)

abbrev entered : Term Ref
entered = Form (Within o Held) (Part (Form (Select (116 ∷ [])) (Part (Const (Loc Object o)) End)) End)

abbrev slot1 : Slot
slot1 = answering 0 0 0 0 no_self entered

abbrev w3 : World
w3 = note (start (with_memory w2 m1) 1 0 slot1) (entry_of 0 0 (Some (act ActKind.Call 2)))

abbrev inside : List (Frame Ref)
inside = Pending (Within o Held) [] End ∷ []

abbrev slot2 : Slot
slot2 = moved slot1 1 (Form (Within o Held) (Part (Const (Int (pos 40))) End))

abbrev w4 : World
w4 = note (start (with_memory w3 m1) 1 0 slot2) (entry_of 0 0 (Some (act ActKind.Get 2)))

abbrev m2 : Memory
m2 = with_left m1 o 2 (Some free)

abbrev slot3 : Slot
slot3 = moved slot2 1 (Const (Int (pos 40)))

abbrev w5 : World
w5 = note (start (with_memory w4 m2) 1 0 slot3) (entry_of 0 0 (Some (act ActKind.Leave 2)))

abbrev w6 : World
w6 = post (without w5 1 0) 1 0 (Reply 0 0 3 (Answer (Int (pos 40))))

abbrev w7 : World
w7 = with_line w6 1 0 []

abbrev w8 : World
w8 = start (pend w7 0 0 None) 0 0 (record { segment = with_window slot.segment (Const (Int (pos 40))); used = 3 })

pub few0 : 0 < 10
few0 = omega arith

pub few1 : 1 + 0 < 10
few1 = omega arith

pub few2 : 2 + 0 < 10
few2 = omega arith

abbrev pub runs : Run 10 w0 w8
runs =
    Then (Then (Then (Then (Then (Then Begin
    (Asks w0 0 0 1 0 slot op [] refl few0 refl refl))
    (Enters w1 w2 0 1 0 0 0 0 no_self op ActKind.Call 2 m1 entered entered (OffLine [] refl) tt (OnCell op o (record { born = 2; cell = free }) ActKind.Call (Some taken) entered refl refl refl) refl))
    (Acted w3 1 0 0 slot1 entered (Get o (116 ∷ [])) inside ActKind.Get 2 m1 (Const (Int (pos 40))) refl few1 refl refl
    (OnCell (Get o (116 ∷ [])) o (record { born = 2; cell = taken }) ActKind.Get None (Const (Int (pos 40))) refl refl refl)))
    (Acted w4 1 0 0 slot2 (Form (Within o Held) (Part (Const (Int (pos 40))) End)) (Leave o (Const (Int (pos 40)))) [] ActKind.Leave 2 m2 (Const (Int (pos 40))) refl few2 refl refl
    (OnCell (Leave o (Const (Int (pos 40)))) o (record { born = 2; cell = taken }) ActKind.Leave (Some free) (Const (Int (pos 40))) refl refl refl)))
    (Returns w5 1 0 slot3 (record { site = 0; number = 0 }) (Answer (Int (pos 40))) refl refl refl))
    (Resumes w6 w7 1 0 0 0 3 (Answer (Int (pos 40))) (record { thread = 0; segment = slot.segment }) op [] (OffLine [] refl) refl refl)

pub journal : w8.journal ≡ entry_of 0 0 (Some (act ActKind.Call 2)) ∷ entry_of 0 0 (Some (act ActKind.Get 2)) ∷ entry_of 0 0 (Some (act ActKind.Leave 2)) ∷ []
journal = refl

pub freed : w8.memory.heap o ≡ Some (record { born = 2; cell = free })
freed = refl

-- ---- the located fold of the same journal

-- each act is done at its cell's site
pub sited : AreSited 2 runs
sited = ((((((tt, tt), refl), refl), refl), tt), tt)

abbrev term : Term ℕ
term = Form (Invoke (97 ∷ [])) (Part (Const (Loc Object 2)) End)

abbrev object : Cell ℕ
object = ObjectCell (record { protected = false; serialized = true }) None (Field (97 ∷ []) (IsMethod ((115 ∷ []) ∷ []) (Form (Select (116 ∷ [])) (Part (Name (115 ∷ [])) End))) (Field (116 ∷ []) (IsValue (Int (pos 40))) Bare))

abbrev state : Term ℕ → ThreadState
state u = record { execution = Running u; used = 0 }

abbrev first : Located
first =
    record {
      config = record { store = record { cells = WriterCell [] ∷ WriterCell [] ∷ object ∷ []; names = [] }; threads = state term ∷ state (Const Okay) ∷ [] };
      cell_sites = 0 ∷ 1 ∷ 1 ∷ [];
      thread_sites = (0 ∷ []) ∷ (1 ∷ []) ∷ [];
      requests = [];
      replies = [];
    }

-- the fold counts one request and one reply, and the thread is at home again
pub counted : option_map (λ (l : Located). record l { config = first.config }) (locate_from 2 10 first w8.journal) ≡ Some (record first { requests = (0, 1) ∷ []; replies = (1, 0) ∷ [] })
counted = refl

-- inside of the method it is at site 1
pub at_object : option_map (λ (l : Located). l.thread_sites) (locate_from 2 10 first w3.journal) ≡ Some ((1 ∷ 0 ∷ []) ∷ (1 ∷ []) ∷ [])
at_object = refl

-- so do the sites; while the method has been left and not answered yet, its reply is to be posted
pub tallied : ((tally_run runs no_tally).posted 0 1 ≡ 1) × ((tally_run runs no_tally).replied 1 0 ≡ 1) × (left_at w5 0 1 ≡ 1) × (left_at w6 0 1 ≡ 0)
tallied = (refl, refl, refl, refl)
