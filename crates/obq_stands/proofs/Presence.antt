-- Each cell that an operation looks at is there: two agreeing maps differ at a reference without cell.
use Rattle.std.specs.Prelude.{Option, Some, None, ℕ, option_map, refl, ◌+◌, ◌≡◌}
use Rattle.std.proofs.Common.{inl, inr, ap, sym, ◌∙◌, subst, arith}
use Rattle.obq_model.specs.Store.{Store}
use Rattle.obq_model.specs.Step.{Operation, New, Get, CallMethod, Leave, Set, Copy, RedirectTo, GetItem, GetSize, EachSize, EachItem, SetItem, ReadVariable, SetVariable, Write, ForkOff, JoinWith, LineUp, GiveUp, Again, Signal, Broadcast, Export, Import, RunEngine}
use Rattle.obq_model.specs.Maps.{map_term, map_operation}
use Rattle.obq_stands.specs.World.{Ref, Born, Memory, Request, wire}
use Rattle.obq_stands.specs.Stands.{Agrees, MemoryStands}
use Rattle.obq_stands.specs.Events.{LooksAt, Present, PresentAbroad}
use Rattle.obq_stands.proofs.Refs.{code}
use Rattle.obq_stands.proofs.Memory.{born_or, reading, reading_agrees}
use Rattle.obq_stands.proofs.Moves.{out_running, out_packet}
use Rattle.obq_stands.proofs.Events.{found_op}
use Rattle.obq_model.specs.OneCell.{cell_of}
use Rattle.obq_model.proofs.NaturalCells.{map_cell_of}

-- a reference that every agreeing map reads alike is that of a cell
pub is_cell : (m : Memory) (st : Store ℕ) → MemoryStands m st → (r : Ref) → ((f g : Ref → ℕ) → Agrees f m.heap → Agrees g m.heap → f r ≡ g r) → (o : Option Born) → m.heap r ≡ o → (x : Born) × (m.heap r ≡ Some x)
is_cell m st h r same None e =
    let zero_is : m.count + (0 + code r) ≡ m.count + (1 + code r) = sym (ap (born_or (m.count + (0 + code r))) e) ∙ same (reading m 0) (reading m 1) (reading_agrees m st h 0) (reading_agrees m st h 1) ∙ ap (born_or (m.count + (1 + code r))) e in
    absurd (omega arith)
is_cell m st h r same (Some x) e = (x, e)

by_cell : (op : Operation Ref) (op2 : Operation ℕ) (r : Ref) (f g : Ref → ℕ) → op2 ≡ map_operation f op → op2 ≡ map_operation g op → cell_of op ≡ Some r → f r ≡ g r
by_cell op op2 r f g e h k =
    let first : cell_of op2 ≡ Some (f r) = ap cell_of e ∙ map_cell_of f op ∙ ap (option_map f) k in
    let other : cell_of op2 ≡ Some (g r) = ap cell_of h ∙ map_cell_of g op ∙ ap (option_map g) k in
    cc (first, other)

one_number : (op : Operation Ref) (op2 : Operation ℕ) (r : Ref) (f g : Ref → ℕ) → op2 ≡ map_operation f op → op2 ≡ map_operation g op → LooksAt op r → f r ≡ g r
one_number (New cell after) op2 r f g e h k = by_cell (New cell after) op2 r f g e h k
one_number (Get o x) op2 r f g e h k = by_cell (Get o x) op2 r f g e h k
one_number (CallMethod o x vs) op2 r f g e h k = by_cell (CallMethod o x vs) op2 r f g e h k
one_number (Leave o out) op2 r f g e h k = by_cell (Leave o out) op2 r f g e h k
one_number (Set o x body) op2 r f g e h k = by_cell (Set o x body) op2 r f g e h k
one_number (Copy o first copied rest) op2 r f g e h k = by_cell (Copy o first copied rest) op2 r f g e h k
one_number (RedirectTo o target) op2 r f g e h k = by_cell (RedirectTo o target) op2 r f g e h k
one_number (GetItem o i) op2 r f g e h k = by_cell (GetItem o i) op2 r f g e h k
one_number (GetSize o) op2 r f g e h k = by_cell (GetSize o) op2 r f g e h k
one_number (EachSize o scope) op2 r f g e h k = by_cell (EachSize o scope) op2 r f g e h k
one_number (EachItem o i n scope) op2 r f g e h k = by_cell (EachItem o i n scope) op2 r f g e h k
one_number (SetItem o i v) op2 r f g e h k = by_cell (SetItem o i v) op2 r f g e h k
one_number (ReadVariable o) op2 r f g e h k = by_cell (ReadVariable o) op2 r f g e h k
one_number (SetVariable o v) op2 r f g e h k = by_cell (SetVariable o v) op2 r f g e h k
one_number (Write o text) op2 r f g e h k = by_cell (Write o text) op2 r f g e h k
one_number (ForkOff v) op2 r f g e h k = by_cell (ForkOff v) op2 r f g e h k
one_number (JoinWith u) op2 r f g e h k = by_cell (JoinWith u) op2 r f g e h k
one_number (LineUp p o guard) op2 r f g e h k = by_cell (LineUp p o guard) op2 r f g e h k
one_number (GiveUp o q guard) op2 r f g e h k = by_cell (GiveUp o q guard) op2 r f g e h k
one_number (Again p q guard) op2 r f g e h (inl k) = let a : Again (f p) (f q) (map_term f guard) ≡ Again (g p) (g q) (map_term g guard) = sym e ∙ h in let b : f p ≡ g p = cc a in ap f k ∙ b ∙ ap g (sym k)
one_number (Again p q guard) op2 r f g e h (inr k) = let a : Again (f p) (f q) (map_term f guard) ≡ Again (g p) (g q) (map_term g guard) = sym e ∙ h in let b : f q ≡ g q = cc a in ap f k ∙ b ∙ ap g (sym k)
one_number (Signal o) op2 r f g e h k = by_cell (Signal o) op2 r f g e h k
one_number (Broadcast o) op2 r f g e h k = by_cell (Broadcast o) op2 r f g e h k
one_number (Export x v) op2 r f g e h k = by_cell (Export x v) op2 r f g e h k
one_number (Import x engine) op2 r f g e h k = by_cell (Import x engine) op2 r f g e h k
one_number (RunEngine o v) op2 r f g e h k = by_cell (RunEngine o v) op2 r f g e h k

-- a request looks at no other cells than the operation
looks_wired : (op : Operation Ref) (r : Ref) → LooksAt (wire op) r → LooksAt op r
looks_wired (Copy o first copied rest) r k = k
looks_wired (EachSize o scope) r k = k
looks_wired (EachItem o i n scope) r k = k
looks_wired (LineUp p o guard) r k = k
looks_wired (GiveUp o q guard) r k = k
looks_wired (Again p q guard) r k = k
looks_wired op r k = k

pub present : Present
present turns w c s t slot op hs st is e r looks =
    let goes = (out_running turns w c s t slot st is).1 in
    let k = found_op w.memory c st.memory w.pending t goes.term slot.segment.window slot.segment.depth slot.segment.self slot.segment.answers goes.reads.links goes.reads.chained goes.reads.same op hs e in
    is_cell w.memory c.store st.memory r (λ f g a b. one_number op k.op2 r f g (k.one f a).0 (k.one g b).0 looks) (w.memory.heap r) refl

pub present_abroad : PresentAbroad
present_abroad turns w w1 c a b t k used depth self op st takes r looks =
    let q = out_packet turns w c a b (Request t k used depth self op) w1 st takes in
    let goes = q.carries.2 in
    let g = goes.reads in
    let l = g.link in
    let own : LooksAt l.op r = looks_wired l.op r (subst (λ o. LooksAt o r) (sym g.asks) looks) in
    let k = found_op w1.memory c q.mid.memory w1.pending t goes.term l.segment.window l.segment.depth l.segment.self l.segment.answers g.links g.chained.5 g.same l.op l.frames g.chained.1.needs in
    let here = is_cell w1.memory c.store q.mid.memory r (λ f g a b. one_number l.op k.op2 r f g (k.one f a).0 (k.one g b).0 own) (w1.memory.heap r) refl in
    (here.0, ap (λ (m : Memory). m.heap r) (sym q.memory) ∙ here.1)
