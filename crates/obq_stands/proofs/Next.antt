-- The operation that a thread does next, at whatever site, is what stands next in its term; so laws of replays hold of it.
use Rattle.std.specs.Prelude.{List, None, Option, Some, [], false, length, max, option_map, refl, slice_get, suc, true, zero, ℕ, ◌+◌, ◌*◌, ◌<◌, ◌∷◌, ◌≡◌, ◌≤◌, ◌⊎◌}
use Rattle.std.proofs.Common.{inl, inr, subst, ap, sym, ◌∙◌, arith}
use Rattle.obq_model.specs.Terms.{Term}
use Rattle.obq_model.specs.Store.{same_loc}
use Rattle.obq_model.specs.Step.{no_self, Operation, Leave, Copy, EachSize, EachItem, LineUp, GiveUp, Again, Frame, Needs, find}
use Rattle.obq_model.specs.Config.{Running, ThreadState, Config, cell_at}
use Rattle.obq_model.specs.Effect.{line_of, in_line}
use Rattle.obq_model.specs.Maps.{map_cell, map_operation}
use Rattle.obq_model.specs.OneCell.{owner_of}
use Rattle.obq_model.proofs.NaturalCells.{map_line_of, map_owner_of}
use Rattle.obq_model.proofs.Slices.{get_below}
use Rattle.obq_laws.specs.Counts.{total_used, UsedAtMost, AreFew}
use Rattle.obq_laws.specs.Lines.{count_in, lined_at}
use Rattle.obq_laws.specs.Locality.{needs_owner}
use Rattle.obq_laws.specs.Turns.{state_of}
use Rattle.obq_laws.proofs.Changes.{owner_at_act}
use Rattle.obq_laws.proofs.Counts.{counts_law}
use Rattle.obq_laws.proofs.Lines.{lines_law, one_line}
use Rattle.obq_stands.specs.World.{Ref, Born, Memory, Request, World, wire}
use Rattle.obq_stands.specs.Stands.{Agrees, MemoryStands, Stands}
use Rattle.obq_stands.specs.Facts.{IsNext, InSegment, InRequest, OwnerKnown, LineKnown, OneLineKnown, NotYetInLine, BoundsKnown}
use Rattle.obq_stands.proofs.Memory.{reading, reading_agrees}
use Rattle.obq_stands.proofs.Moves.{out_running, out_packet}
use Rattle.obq_stands.proofs.Events.{found_op}
use Rattle.obq_stands.proofs.Presence.{is_cell}
use Rattle.obq_stands.proofs.Sleeping.{running_one, needs_one}

-- what stands next in the thread's term is this operation, read: the next one, or that of which a request has what it carries
pub record NextIn (w : World) (c : Config) (t : ℕ) (op : Operation Ref) : Type 0 where
  pub asked : Operation Ref
  pub is : (op ≡ asked) ⊎ (op ≡ wire asked)
  pub term : Term ℕ
  pub used : ℕ
  pub here : slice_get c.threads t ≡ Some (state_of (Running term) used)
  pub read : Operation ℕ
  pub frames : List (Frame ℕ)
  pub found : find same_loc 0 no_self term ≡ Needs read frames
  pub one : (f : Ref → ℕ) → Agrees f w.memory.heap → read ≡ map_operation f asked

pub next_in : (turns : ℕ) (w : World) (c : Config) (t : ℕ) (op : Operation Ref) → Stands turns w c → IsNext w t op → NextIn w c t op
next_in turns w c t op st (InSegment s slot _ hs is e) =
    let goes = (out_running turns w c s t slot st is).1 in
    let k = found_op w.memory c st.memory w.pending t goes.term slot.segment.window slot.segment.depth slot.segment.self slot.segment.answers goes.reads.links goes.reads.chained goes.reads.same op hs e in
    record { asked = op; is = inl refl; term = goes.term; used = slot.used; here = goes.here; read = k.op2; frames = k.gs; found = k.found; one = λ f a. (k.one f a).0 }
next_in turns w c t op st (InRequest a b k used depth self _ w1 takes) =
    let q = out_packet turns w c a b (Request t k used depth self op) w1 st takes in
    let goes = q.carries.2 in
    let g = goes.reads in
    let l = g.link in
    let k = found_op w1.memory c q.mid.memory w1.pending t goes.term l.segment.window l.segment.depth l.segment.self l.segment.answers g.links g.chained.5 g.same l.op l.frames g.chained.1.needs in
    record {
      asked = l.op;
      is = inr (sym g.asks);
      term = goes.term;
      used = used;
      here = goes.here;
      read = k.op2;
      frames = k.gs;
      found = k.found;
      one = λ f a. (k.one f (subst (λ (m : Memory). Agrees f m.heap) (sym q.memory) a)).0;
    }

-- ---- owners

map_needs_owner : {R S : Type 0} (f : R → S) (op : Operation R) → needs_owner (map_operation f op) ≡ option_map f (needs_owner op)
map_needs_owner f (Leave o out) = refl
map_needs_owner f (LineUp p o guard) = refl
map_needs_owner f (GiveUp o c guard) = refl
map_needs_owner f op = refl

wire_needs_owner : (op : Operation Ref) → needs_owner (wire op) ≡ needs_owner op
wire_needs_owner (Leave o out) = refl
wire_needs_owner (Copy o first copied rest) = refl
wire_needs_owner (EachSize o scope) = refl
wire_needs_owner (EachItem o i n scope) = refl
wire_needs_owner (LineUp p o guard) = refl
wire_needs_owner (GiveUp o c guard) = refl
wire_needs_owner (Again p c guard) = refl
wire_needs_owner op = refl

owner_asked : (op asked : Operation Ref) → ((op ≡ asked) ⊎ (op ≡ wire asked)) → needs_owner asked ≡ needs_owner op
owner_asked op asked (inl e) = ap needs_owner (sym e)
owner_asked op asked (inr e) = sym (wire_needs_owner asked) ∙ ap needs_owner (sym e)

pub owner_known : OwnerKnown
owner_known trees turns w t op o i next need =
    let m : Memory = w.memory in
    let c : Config = i.config in
    let k = next_in turns w c t op i.stands next in
    let own : needs_owner k.asked ≡ Some o = owner_asked op k.asked k.is ∙ need in
    let read : (f : Ref → ℕ) → Agrees f m.heap → needs_owner k.read ≡ Some (f o) = λ f a. ap needs_owner (k.one f a) ∙ map_needs_owner f k.asked ∙ ap (option_map f) own in
    let x = is_cell m c.store i.stands.memory o (λ f g a b. let p = read f a in let q = read g b in cc (p, q)) (m.heap o) refl in
    let f : Ref → ℕ = reading m 0 in
    let a : Agrees f m.heap = reading_agrees m c.store i.stands.memory 0 in
    let at : owner_of (cell_at c.store (f o)) ≡ Some t = owner_at_act trees turns w.journal c t k.used k.term k.read k.frames (f o) i.replays k.here k.found (read f a) in
    let cell : cell_at c.store (f o) ≡ Some (map_cell f x.0.cell) = ap (cell_at c.store) (a.cells o x.0 x.1) ∙ i.stands.memory.cells o x.0 x.1 f a in
    (x.0, x.1, sym (map_owner_of f (Some x.0.cell)) ∙ ap owner_of (sym cell) ∙ at)

-- ---- lines

-- the line of a condition's cell is that of the store
line_there : (m : Memory) (c : Config) → MemoryStands m c.store → (q : Ref) (y : Born) → m.heap q ≡ Some y → line_of (cell_at c.store y.born) ≡ line_of (Some y.cell)
line_there m c st q y here =
    let f : Ref → ℕ = reading m 0 in
    ap line_of (st.cells q y here f (reading_agrees m c.store st 0)) ∙ map_line_of f (Some y.cell)

pub line_known : LineKnown
line_known trees turns w q y u i here e =
    let c : Config = i.config in
    let same : line_of (cell_at c.store y.born) ≡ line_of (Some y.cell) = line_there w.memory c i.stands.memory q y here in
    let k = lines_law trees turns w.journal c i.replays y.born u (ap (in_line u) same ∙ e) in
    (subst (λ n. u < n) i.stands.counted (get_below c.threads u (state_of (Running k.1.0) k.1.1) k.1.4), ap (count_in u) (sym same) ∙ k.0)

pub one_line_known : OneLineKnown
one_line_known trees turns w q r y z u i here there e f =
    let c : Config = i.config in
    let m = i.stands.memory in
    let born = one_line trees turns w.journal c y.born z.born u i.replays (ap (in_line u) (line_there w.memory c m q y here) ∙ e) (ap (in_line u) (line_there w.memory c m r z there) ∙ f) in
    m.apart q r y z here there born

lined_of : (term u : Term ℕ) (op op2 : Operation ℕ) (fs gs : List (Frame ℕ)) (used used2 q : ℕ) (z : Option ThreadState) → z ≡ Some (state_of (Running term) used) → z ≡ Some (state_of (Running u) used2) → find same_loc 0 no_self term ≡ Needs op fs
    → find same_loc 0 no_self u ≡ Needs op2 gs → lined_at op2 ≡ Some q → lined_at op ≡ Some q
lined_of term u op op2 fs gs used used2 q z e f found found2 at =
    let terms : term ≡ u = running_one z term u used used2 e f in
    let ops : op ≡ op2 = needs_one (find same_loc 0 no_self term) op op2 fs gs found (ap (find same_loc 0 no_self) terms ∙ found2) in
    ap lined_at ops ∙ at

-- a request to line up asks for a watch to line up
lines_wired : (op asked : Operation Ref) → ((op ≡ asked) ⊎ (op ≡ wire asked)) → (o c : Ref) (guard : Term Ref) → op ≡ LineUp o c guard → (f : Ref → ℕ) → lined_at (map_operation f asked) ≡ None
lines_wired op asked (inl e) o c guard is f = let k : asked ≡ LineUp o c guard = sym e ∙ is in ap (λ z. lined_at (map_operation f z)) k
lines_wired op asked (inr e) o c guard is f = by asked (sym e ∙ is)
  where
    by : (z : Operation Ref) → wire z ≡ LineUp o c guard → lined_at (map_operation f z) ≡ None
    by (GiveUp p r g) k = absurd (cc k)
    by (Again p r g) k = absurd (cc k)
    by _ k = refl

pub not_yet_in_line : NotYetInLine
not_yet_in_line trees turns w t o c guard q y i next here = by (in_line t (line_of (Some y.cell))) refl
  where
    by : (b : _) → in_line t (line_of (Some y.cell)) ≡ b → in_line t (line_of (Some y.cell)) ≡ false
    by false e = e
    by true e =
        let k = next_in turns w i.config t (LineUp o c guard) i.stands next in
        let f : Ref → ℕ = reading w.memory 0 in
        let a : Agrees f w.memory.heap = reading_agrees w.memory i.config.store i.stands.memory 0 in
        let l = (lines_law trees turns w.journal i.config i.replays y.born t (ap (in_line t) (line_there w.memory i.config i.stands.memory q y here) ∙ e)).1 in
        let at : lined_at k.read ≡ Some y.born = lined_of k.term l.0 k.read l.2 k.frames l.3 k.used l.1 y.born (slice_get i.config.threads t) k.here l.4 k.found l.5 l.6 in
        let gone : lined_at k.read ≡ None = ap lined_at (k.one f a) ∙ lines_wired (LineUp o c guard) k.asked k.is o c guard refl f in
        absurd (cc (at, gone))

-- ---- bounds

total_most : (turns : ℕ) (ts : List ThreadState) → UsedAtMost turns ts → total_used ts ≤ length ts * turns
total_most turns [] h = omega arith
total_most turns (s ∷ ss) h = let more = total_most turns ss h.1 in let one = h.0 in more_by (length ss) turns s.used (total_used ss) one more
  where
    more_by : (n k u z : ℕ) → u ≤ k → z ≤ n * k → u + z ≤ suc n * k
    more_by n k u z a b = grind (arith, a, b)

used_most : (turns : ℕ) (ts : List ThreadState) (t : ℕ) (s : ThreadState) → UsedAtMost turns ts → slice_get ts t ≡ Some s → s.used ≤ turns
used_most turns [] t s h e = absurd (cc e)
used_most turns (x ∷ xs) zero s h e = let same : x ≡ s = cc e in subst (λ (z : ThreadState). z.used ≤ turns) same h.0
used_most turns (x ∷ xs) (suc t) s h e = used_most turns xs t s h.1 e

pub bounds_known : BoundsKnown
bounds_known trees turns w i =
    let c : Config = i.config in
    let k : AreFew (length trees) turns c = counts_law trees turns w.journal c i.replays in
    let most = total_most turns c.threads k.2 in
    record {
      cells = by (length c.store.cells) w.memory.count (length trees) (total_used c.threads) (length c.threads) w.threads turns i.stands.memory.counted i.stands.counted k.0 most;
      numbers = i.stands.memory.below;
      threads = subst (λ n. n ≤ max 64 (length trees)) i.stands.counted k.1;
      used = λ s t slot is.
          let goes = (out_running turns w c s t slot i.stands is).1 in
          (subst (λ n. t < n) i.stands.counted (get_below c.threads t _ goes.here), used_most turns c.threads t (state_of (Running goes.term) slot.used) k.2 goes.here);
    }
  where
    by : (cells count sites total n threads turns : ℕ) → cells ≡ count → n ≡ threads → cells ≤ sites + total → total ≤ n * turns → count ≤ sites + threads * turns
    by cells count sites total n threads turns e f a b = rw (sym e, sym f) (omega (arith, a, b))
