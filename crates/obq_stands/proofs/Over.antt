-- Where nobody can go in the World, nobody can go in the configuration.
use Rattle.std.specs.Prelude.{Bool, true, false, List, Option, Some, None, ℕ, is_some, nat_lt, option_map, slice_get, refl, ◌&&◌, ◌||◌, ◌≡◌}
use Rattle.std.proofs.Common.{ap, sym, ◌∙◌, subst}
use Rattle.obq_model.specs.Terms.{Term}
use Rattle.obq_model.specs.Store.{same_loc, exported}
use Rattle.obq_model.specs.Step.{Self, no_self, Operation, New, Get, CallMethod, Leave, Set, Copy, RedirectTo, GetItem, GetSize, EachSize, EachItem, SetItem, ReadVariable, SetVariable, Write, ForkOff, JoinWith, LineUp, GiveUp, Again, Signal, Broadcast, Export, Import, RunEngine, Frame, Needs, find, next_of, self_at}
use Rattle.obq_model.specs.Config.{Execution, Running, ThreadState, Config, cell_at}
use Rattle.obq_model.specs.Effect.{Outcome, Waiting, Effect, ends_at, on_cell, line_of, in_line, joined, imported, perform, after_outcome, effect_of, effect_of_state, effect}
use Rattle.obq_model.specs.Effect as e
use Rattle.obq_model.specs.Cells.{cell_row, again_row}
use Rattle.obq_model.specs.Maps.{map_term, map_self, map_operation}
use Rattle.obq_model.specs.Replay.{acts, is_able, is_able_execution}
use Rattle.obq_model.proofs.NaturalCells.{map_cell_row, map_again, map_import, map_cell_of, map_exported, map_line_of}
use Rattle.obq_stands.specs.World.{Ref, same_ref, Born, Memory, Slot, Packet, Request, Reply, Ending, ByValue, ByException, World, Idle, Ends, wire, MayAsk}
use Rattle.obq_stands.specs.Stands.{Agrees, Link, Place, Nowhere, Absent, At, InLine, WaitsAt, EndedAt, Goes, Carries, ending_of, Reads, StandsAt, HasPlace, IsIn, IsSomewhere, Stands}
use Rattle.obq_stands.specs.Over.{Waits, OnCellWaits, RetakeWaits, JoinWaits, ImportWaits, HasStopped, IsStuck, IsIdle, IdleIsOver, IdleReplaysOver}
use Rattle.obq_stands.proofs.Memory.{reading, reading_agrees}
use Rattle.obq_stands.proofs.Acts.{outcome}
use Rattle.obq_stands.proofs.Events.{found_op}
use Rattle.obq_stands.proofs.Turns.{state_of}
use Rattle.obq_stands.proofs.Wired.{on_result, wire_cell, may_wire, cell_result, again_result}
use Rattle.obq_model.specs.OneCell.{cell_of}
use Rattle.obq_model.proofs.OneCell.{perform_cell}

-- ---- an operation that waits at its site waits in the store

-- a thread of which no ending is kept hasn't ended
not_ended : (turns : ℕ) (w : World) (c : Config) → Stands turns w c → (u : ℕ) → ((b : ℕ) → w.ended b u ≡ None) → (y : Place) → IsSomewhere y → HasPlace w.running w.waiting w.ended w.lines u y → StandsAt turns w.memory.heap w.pending u (slice_get c.threads u) y
    → joined c.store u (slice_get c.threads u) ≡ Waiting
not_ended turns w c st u none Nowhere some has r = absurd some
not_ended turns w c st u none Absent some has r = ap (joined c.store u) r
not_ended turns w c st u none (At s slot) some has r = ap (joined c.store u) r.here
not_ended turns w c st u none (InLine a b (Request t k used depth self op)) some has r = ap (joined c.store u) r.2.here
not_ended turns w c st u none (InLine a b (Reply t k used o)) some has r = ap (joined c.store u) r.1.here
not_ended turns w c st u none (WaitsAt b x) some has r = by x.packet r
  where
    by : (q : Packet) → Carries turns w.memory.heap w.pending u (slice_get c.threads u) x.from b q → joined c.store u (slice_get c.threads u) ≡ Waiting
    by (Request t k used depth self op) q = ap (joined c.store u) q.2.here
    by (Reply t k used o) q = ap (joined c.store u) q.1.here
not_ended turns w c st u none (EndedAt b e) some has r = absurd (let gone = none b in cc (gone, has))

waits_too : (turns : ℕ) (w : World) (c : Config) → Stands turns w c → (t : ℕ) (s : Self Ref) (s2 : Self ℕ) (op : Operation Ref) (op2 : Operation ℕ) → ((f : Ref → ℕ) → Agrees f w.memory.heap → (op2 ≡ map_operation f op) × (s2 ≡ map_self f s))
    → Waits w.memory w.ended t s op → perform c t s2 op2 ≡ Waiting
waits_too turns w c st t s s2 op op2 one (OnCellWaits _ r x at here row) =
    let f : Ref → ℕ = reading w.memory 0 in
    let a : Agrees f w.memory.heap = reading_agrees w.memory c.store st.memory 0 in
    ap (λ o. perform c t o op2) (one f a).1
    ∙ ap (perform c t (map_self f s)) (one f a).0
    ∙ perform_cell c t (map_self f s) (map_operation f op) (f r) (map_cell_of f op ∙ ap (option_map f) at)
    ∙ ap (on_cell c t (map_self f s) (map_operation f op)) (a.cells r x here)
    ∙ ap (cell_row same_loc (ends_at c.store x.born) Waiting t (map_self f s) (map_operation f op)) (st.memory.cells r x here f a)
    ∙ sym (map_cell_row f (outcome f c.store x.born) same_ref same_loc Ends (ends_at c.store x.born) Idle Waiting a.tells (λ k d u. refl) refl t s op (Some x.cell))
    ∙ ap (outcome f c.store x.born) row
waits_too turns w c st t s s2 op op2 one (RetakeWaits o q guard x y here there row) =
    let f : Ref → ℕ = reading w.memory 0 in
    let a : Agrees f w.memory.heap = reading_agrees w.memory c.store st.memory 0 in
    ap (perform c t s2) (one f a).0
    ∙ ap (λ l. again_row (ends_at c.store l) Waiting t (in_line t (line_of (cell_at c.store (f q)))) (f o) (f q) (map_term f guard) (cell_at c.store l)) (a.cells o x here)
    ∙ ap (λ l. again_row (ends_at c.store x.born) Waiting t (in_line t (line_of (cell_at c.store l))) (f o) (f q) (map_term f guard) (cell_at c.store x.born)) (a.cells q y there)
    ∙ ap (λ z. again_row (ends_at c.store x.born) Waiting t (in_line t (line_of z)) (f o) (f q) (map_term f guard) (cell_at c.store x.born)) (st.memory.cells q y there f a)
    ∙ ap (λ l. again_row (ends_at c.store x.born) Waiting t (in_line t l) (f o) (f q) (map_term f guard) (cell_at c.store x.born)) (map_line_of f (Some y.cell))
    ∙ ap (again_row (ends_at c.store x.born) Waiting t (in_line t (line_of (Some y.cell))) (f o) (f q) (map_term f guard)) (st.memory.cells o x here f a)
    ∙ sym (map_again f (outcome f c.store x.born) Ends (ends_at c.store x.born) Idle Waiting (λ k d u. refl) refl t (in_line t (line_of (Some y.cell))) o q guard (Some x.cell))
    ∙ ap (outcome f c.store x.born) row
waits_too turns w c st t s s2 op op2 one (JoinWaits u none) =
    ap (perform c t s2) (one (reading w.memory 0) (reading_agrees w.memory c.store st.memory 0)).0
    ∙ not_ended turns w c st u none (st.place u) (st.settled u) (st.placed.back u) (st.threads u)
waits_too turns w c st t s s2 op op2 one (ImportWaits x engine row) =
    let f : Ref → ℕ = reading w.memory 0 in
    let a : Agrees f w.memory.heap = reading_agrees w.memory c.store st.memory 0 in
    ap (perform c t s2) (one f a).0
    ∙ ap (λ ns. imported c.store engine (exported x ns)) (st.memory.names f a)
    ∙ ap (imported c.store engine) (sym (map_exported f x w.memory.names))
    ∙ sym (map_import f (outcome f c.store 0) Ends (ends_at c.store 0) Idle Waiting (λ k d u. refl) refl engine (exported x w.memory.names))
    ∙ ap (outcome f c.store 0) row

-- so does one whose request waits
cell_stuck : (m : Memory) (en : ℕ → ℕ → Option Ending) (t : ℕ) (s : Self Ref) (op : Operation Ref) → MayAsk op → (r : Ref) (b : Born) → cell_of (wire op) ≡ Some r → m.heap r ≡ Some b
    → cell_row same_ref Ends Idle t s (wire op) (Some b.cell) ≡ Idle → Waits m en t s op
cell_stuck m en t s op may r b at here row = OnCellWaits op r b (sym (wire_cell op) ∙ at) here (cell_result same_ref t s op (Some b.cell) may ∙ ap (on_result op) row)

stuck : (m : Memory) (en : ℕ → ℕ → Option Ending) (t : ℕ) (s : Self Ref) (op : Operation Ref) → MayAsk op → Waits m en t s (wire op) → Waits m en t s op
stuck m en t s (New cell after) may h = absurd may
stuck m en t s (Get o name) may (OnCellWaits _ r b at here row) = cell_stuck m en t s (Get o name) may r b at here row
stuck m en t s (CallMethod o name vs) may (OnCellWaits _ r b at here row) = cell_stuck m en t s (CallMethod o name vs) may r b at here row
stuck m en t s (Leave o out) may h = absurd may
stuck m en t s (Set o name body) may (OnCellWaits _ r b at here row) = cell_stuck m en t s (Set o name body) may r b at here row
stuck m en t s (Copy o first copied rest) may (OnCellWaits _ r b at here row) = cell_stuck m en t s (Copy o first copied rest) may r b at here row
stuck m en t s (RedirectTo o target) may (OnCellWaits _ r b at here row) = cell_stuck m en t s (RedirectTo o target) may r b at here row
stuck m en t s (GetItem o i) may (OnCellWaits _ r b at here row) = cell_stuck m en t s (GetItem o i) may r b at here row
stuck m en t s (GetSize o) may (OnCellWaits _ r b at here row) = cell_stuck m en t s (GetSize o) may r b at here row
stuck m en t s (EachSize o scope) may (OnCellWaits _ r b at here row) = cell_stuck m en t s (EachSize o scope) may r b at here row
stuck m en t s (EachItem o i size scope) may (OnCellWaits _ r b at here row) = cell_stuck m en t s (EachItem o i size scope) may r b at here row
stuck m en t s (SetItem o i v) may (OnCellWaits _ r b at here row) = cell_stuck m en t s (SetItem o i v) may r b at here row
stuck m en t s (ReadVariable o) may (OnCellWaits _ r b at here row) = cell_stuck m en t s (ReadVariable o) may r b at here row
stuck m en t s (SetVariable o v) may (OnCellWaits _ r b at here row) = cell_stuck m en t s (SetVariable o v) may r b at here row
stuck m en t s (Write o text) may (OnCellWaits _ r b at here row) = cell_stuck m en t s (Write o text) may r b at here row
stuck m en t s (ForkOff v) may h = absurd may
stuck m en t s (JoinWith u) may (OnCellWaits _ r b at here row) = absurd (cc at)
stuck m en t s (JoinWith u) may (JoinWaits _ none) = JoinWaits u none
stuck m en t s (LineUp p o guard) may (OnCellWaits _ r b at here row) = cell_stuck m en t s (LineUp p o guard) may r b at here row
stuck m en t s (GiveUp o q guard) may (OnCellWaits _ r b at here row) = cell_stuck m en t s (GiveUp o q guard) may r b at here row
stuck m en t s (Again p q guard) may (OnCellWaits _ r b at here row) = absurd (cc at)
stuck m en t s (Again p q guard) may (RetakeWaits _ _ _ a b here there row) = RetakeWaits p q guard a b here there (again_result t (in_line t (line_of (Some b.cell))) p q guard (Some a.cell) ∙ ap (on_result (Again p q guard)) row)
stuck m en t s (Signal o) may (OnCellWaits _ r b at here row) = cell_stuck m en t s (Signal o) may r b at here row
stuck m en t s (Broadcast o) may (OnCellWaits _ r b at here row) = cell_stuck m en t s (Broadcast o) may r b at here row
stuck m en t s (Export name v) may (OnCellWaits _ r b at here row) = absurd (cc at)
stuck m en t s (Import name engine) may (OnCellWaits _ r b at here row) = absurd (cc at)
stuck m en t s (Import name engine) may (ImportWaits _ _ row) = ImportWaits name engine row
stuck m en t s (RunEngine o v) may (OnCellWaits _ r b at here row) = cell_stuck m en t s (RunEngine o v) may r b at here row

-- ---- a thread that can't go

nothing_false : (b : Bool) → (b && (false || false)) ≡ false
nothing_false true = refl
nothing_false false = refl

-- a thread whose operation waits has nothing to do, so it isn't able
waits_next : (c : Config) (t used : ℕ) (u : Term ℕ) (op : Operation ℕ) (fs : List (Frame ℕ)) → slice_get c.threads t ≡ Some (state_of (Running u) used) → find same_loc 0 no_self u ≡ Needs op fs → perform c t (self_at no_self fs) op ≡ Waiting → effect c t ≡ e.Waits
waits_next c t used u op fs here found waits = ap (effect_of_state c t) here ∙ ap (effect_of c t) found ∙ ap (after_outcome c t fs) waits

not_able : (turns : ℕ) (c : Config) (t used : ℕ) (u : Term ℕ) (op : Operation ℕ) (fs : List (Frame ℕ)) → slice_get c.threads t ≡ Some (state_of (Running u) used) → find same_loc 0 no_self u ≡ Needs op fs → perform c t (self_at no_self fs) op ≡ Waiting → is_able turns c t ≡ false
not_able turns c t used u op fs here found waits =
    let ef : effect c t ≡ e.Waits = waits_next c t used u op fs here found waits in
    ap (λ (o : Option ThreadState). elim o [ None ↦ false | Some state ↦ is_able_execution turns c t state.used state.execution ]) here
    ∙ ap (λ x. nat_lt used turns && (is_some (next_of x) || acts (effect c t))) found
    ∙ ap (λ x. nat_lt used turns && (false || acts x)) ef
    ∙ nothing_false (nat_lt used turns)

spent : (turns : ℕ) (c : Config) (t used : ℕ) (u : Term ℕ) → slice_get c.threads t ≡ Some (state_of (Running u) used) → nat_lt used turns ≡ false → is_able turns c t ≡ false
spent turns c t used u here over =
    ap (λ (o : Option ThreadState). elim o [ None ↦ false | Some state ↦ is_able_execution turns c t state.used state.execution ]) here
    ∙ ap (λ b. b && (is_some (next_of (find same_loc 0 no_self u)) || acts (effect c t))) over

-- what stands next in a thread waits in the store
record WaitsNext (c : Config) (t used : ℕ) : Type 0 where
  term : Term ℕ
  op : Operation ℕ
  frames : List (Frame ℕ)
  here : slice_get c.threads t ≡ Some (state_of (Running term) used)
  found : find same_loc 0 no_self term ≡ Needs op frames
  waits : perform c t (self_at no_self frames) op ≡ Waiting

waits_able : (turns : ℕ) (c : Config) (t used : ℕ) → WaitsNext c t used → is_able turns c t ≡ false
waits_able turns c t used k = not_able turns c t used k.term k.op k.frames k.here k.found k.waits

segment_waits : (turns : ℕ) (w : World) (c : Config) → Stands turns w c → (t : ℕ) (slot : Slot) (op : Operation Ref) (hs : List (Frame Ref)) → Goes (slice_get c.threads t) slot.used (λ u. Reads w.memory.heap w.pending t u slot.segment.window slot.segment.depth slot.segment.self slot.segment.answers)
    → find same_ref slot.segment.depth slot.segment.self slot.segment.window ≡ Needs op hs → Waits w.memory w.ended t (self_at slot.segment.self hs) op → WaitsNext c t slot.used
segment_waits turns w c st t slot op hs r needs waits =
    let k = found_op w.memory c st.memory w.pending t r.term slot.segment.window slot.segment.depth slot.segment.self slot.segment.answers r.reads.links r.reads.chained r.reads.same op hs needs in
    record { term = r.term; op = k.op2; frames = k.gs; here = r.here; found = k.found; waits = waits_too turns w c st t (self_at slot.segment.self hs) (self_at no_self k.gs) op k.op2 k.one waits }

-- the effect of a thread whose segment waits
pub segment_effect : (turns : ℕ) (w : World) (c : Config) → Stands turns w c → (t : ℕ) (slot : Slot) (op : Operation Ref) (hs : List (Frame Ref)) → Goes (slice_get c.threads t) slot.used (λ u. Reads w.memory.heap w.pending t u slot.segment.window slot.segment.depth slot.segment.self slot.segment.answers)
    → find same_ref slot.segment.depth slot.segment.self slot.segment.window ≡ Needs op hs → Waits w.memory w.ended t (self_at slot.segment.self hs) op → effect c t ≡ e.Waits
segment_effect turns w c st t slot op hs r needs waits = let k = segment_waits turns w c st t slot op hs r needs waits in waits_next c t slot.used k.term k.op k.frames k.here k.found k.waits

stopped : (turns : ℕ) (w : World) (c : Config) → Stands turns w c → (t : ℕ) (slot : Slot) → (r : Goes (slice_get c.threads t) slot.used (λ u. Reads w.memory.heap w.pending t u slot.segment.window slot.segment.depth slot.segment.self slot.segment.answers))
    → HasStopped turns w.memory w.ended t slot → (b : Bool) → nat_lt slot.used turns ≡ b → is_able turns c t ≡ false
stopped turns w c st t slot r h false is = spent turns c t slot.used r.term r.here is
stopped turns w c st t slot r h true is = let q = h is in waits_able turns c t slot.used (segment_waits turns w c st t slot q.0 q.1 r q.2 q.3)

request_waits : (turns : ℕ) (w : World) (c : Config) → Stands turns w c → (t a b k used depth : ℕ) (self : Self Ref) (op : Operation Ref) → Carries turns w.memory.heap w.pending t (slice_get c.threads t) a b (Request t k used depth self op) → MayAsk op → Waits w.memory w.ended t self op → WaitsNext c t used
request_waits turns w c st t a b k used depth self op r may waits =
    let g = r.2.reads in
    let l : Link = g.link in
    let q = found_op w.memory c st.memory w.pending t r.2.term l.segment.window l.segment.depth l.segment.self l.segment.answers g.links g.chained.5 g.same l.op l.frames g.chained.1.needs in
    let own : Waits w.memory w.ended t (self_at l.segment.self l.frames) l.op =
    subst (λ z. Waits w.memory w.ended t z l.op) g.chained.4 (stuck w.memory w.ended t self l.op (may_wire l.op (subst MayAsk (sym g.asks) may)) (subst (Waits w.memory w.ended t self) (sym g.asks) waits)) in
    record { term = r.2.term; op = q.op2; frames = q.gs; here = r.2.here; found = q.found; waits = waits_too turns w c st t (self_at l.segment.self l.frames) (self_at no_self q.gs) l.op q.op2 q.one own }

-- the effect of a thread whose request waits
pub request_effect : (turns : ℕ) (w : World) (c : Config) → Stands turns w c → (t a b k used depth : ℕ) (self : Self Ref) (op : Operation Ref) → Carries turns w.memory.heap w.pending t (slice_get c.threads t) a b (Request t k used depth self op) → MayAsk op → Waits w.memory w.ended t self op → effect c t ≡ e.Waits
request_effect turns w c st t a b k used depth self op r may waits = let x = request_waits turns w c st t a b k used depth self op r may waits in waits_next c t used x.term x.op x.frames x.here x.found x.waits

held : (turns : ℕ) (w : World) (c : Config) → Stands turns w c → (t a b : ℕ) (q : Packet) → Carries turns w.memory.heap w.pending t (slice_get c.threads t) a b q → IsStuck w.memory w.ended q → is_able turns c t ≡ false
held turns w c st t a b (Request t2 k used depth self op) r h =
    waits_able turns c t used (request_waits turns w c st t a b k used depth self op (refl, r.1, r.2) h.0 (subst (λ n. Waits w.memory w.ended n self op) r.0 h.1))
held turns w c st t a b (Reply t2 k used o) r h = absurd h

ended_by : (turns : ℕ) (c : Config) (t : ℕ) (f : Ref → ℕ) (x : Ending) (ex : Execution) (used : ℕ) → slice_get c.threads t ≡ Some (state_of ex used) → ex ≡ ending_of f x → is_able turns c t ≡ false
ended_by turns c t f (ByValue v) ex used here is =
    ap (λ (o : Option ThreadState). elim o [ None ↦ false | Some state ↦ is_able_execution turns c t state.used state.execution ]) here ∙ ap (is_able_execution turns c t used) is
ended_by turns c t f (ByException x) ex used here is =
    ap (λ (o : Option ThreadState). elim o [ None ↦ false | Some state ↦ is_able_execution turns c t state.used state.execution ]) here ∙ ap (is_able_execution turns c t used) is

at_place : (turns : ℕ) (w : World) (c : Config) → Stands turns w c → IsIdle turns w → (t : ℕ) (y : Place) → IsSomewhere y → HasPlace w.running w.waiting w.ended w.lines t y → StandsAt turns w.memory.heap w.pending t (slice_get c.threads t) y → is_able turns c t ≡ false
at_place turns w c st idle t Nowhere some has r = absurd some
at_place turns w c st idle t Absent some has r = ap (λ (o : Option ThreadState). elim o [ None ↦ false | Some state ↦ is_able_execution turns c t state.used state.execution ]) r
at_place turns w c st idle t (At s slot) some has r = stopped turns w c st t slot r (idle.runs s t slot has) (nat_lt slot.used turns) refl
at_place turns w c st idle t (InLine a b q) some has r = absurd (subst (IsIn q) (idle.lines a b) has.1)
at_place turns w c st idle t (WaitsAt b x) some has r = held turns w c st t x.from b x.packet r (idle.waits b t x has)
at_place turns w c st idle t (EndedAt b x) some has r = ended_by turns c t (reading w.memory 0) x r.execution r.used r.here (r.same (reading w.memory 0) (reading_agrees w.memory c.store st.memory 0))

pub idle_is_over : IdleIsOver
idle_is_over turns w c st idle t = at_place turns w c st idle t (st.place t) (st.settled t) (st.placed.back t) (st.threads t)

pub idle_replays_over : IdleReplaysOver
idle_replays_over trees turns w inv idle = (inv.config, inv.replays, idle_is_over turns w inv.config inv.stands idle)
