-- The output and the report of the configuration are those of the World.
use Rattle.std.specs.Prelude.{List, Option, Some, [], length, map, refl, slice_get, suc, take, zero, ℕ, ◌+◌, ◌<◌, ◌∷◌, ◌≡◌}
use Rattle.std.proofs.Common.{inl, inr, subst, ap, sym, ◌∙◌, arith}
use Rattle.obq_base.specs.declared.acts.Report.{Report}
use Rattle.obq_model.specs.Store.{Cell, ObjectCell, ArrayCell, VariableCell, WriterCell, ConditionCell, EngineCell}
use Rattle.obq_model.specs.Cells.{written}
use Rattle.obq_model.specs.Config.{Execution, Running, ThreadState, Config}
use Rattle.obq_model.specs.Maps.{map_cell}
use Rattle.obq_model.specs.Replay.{count_execution, report_of}
use Rattle.obq_laws.specs.Turns.{state_of}
use Rattle.obq_stands.specs.World.{Ref, Born, Packet, Request, Reply, thread_of, Ending, ByValue, ByException, World}
use Rattle.obq_stands.specs.Stands.{Agrees, Place, Nowhere, Absent, At, InLine, WaitsAt, EndedAt, Fits, IsIn, Carries, StandsAt, Stands, ending_of}
use Rattle.obq_stands.specs.Facts.{OutputKnown, used_of, count_unended, count_place, report_from, IsAtPlace, ReportKnown}
use Rattle.obq_stands.proofs.Memory.{reading, reading_agrees}

-- ---- outputs

written_map : {R S : Type 0} (f : R → S) (cell : Cell R) → written (Some (map_cell f cell)) ≡ written (Some cell)
written_map f (ObjectCell flags owner fields) = refl
written_map f (ArrayCell vs) = refl
written_map f (VariableCell v) = refl
written_map f (WriterCell bytes) = refl
written_map f (ConditionCell line) = refl
written_map f (EngineCell v) = refl

take_get : {X Y : Type 0} (g : X → Y) (n : ℕ) (xs : List X) (k : ℕ) (x : X) → k < n → slice_get xs k ≡ Some x → slice_get (map g (take n xs)) k ≡ Some (g x)
take_get g zero xs k x l e = absurd (omega arith)
take_get g (suc n) [] k x l e = absurd (cc e)
take_get g (suc n) (y ∷ ys) zero x l e = let same : y ≡ x = cc e in ap (λ z. Some (g z)) same
take_get g (suc n) (y ∷ ys) (suc k) x l e = take_get g n ys k x (omega arith) e

one_born : (z : Option Born) (a b : Born) → z ≡ Some a → z ≡ Some b → a ≡ b
one_born z a b e f = cc (e, f)

pub output_known : OutputKnown
output_known turns sites w c k x st has l here =
    let f : Ref → ℕ = reading w.memory 0 in
    let a : Agrees f w.memory.heap = reading_agrees w.memory c.store st.memory 0 in
    let own = has k l in
    let same : own.0 ≡ x = one_born (w.memory.heap _) own.0 x own.1 here in
    let born : x.born ≡ k = ap (λ (b : Born). b.born) (sym same) ∙ own.2 in
    take_get (λ cell. written (Some cell)) sites c.store.cells k (map_cell f x.cell) l (ap (slice_get c.store.cells) (sym born) ∙ st.memory.cells _ x here f a) ∙ ap Some (written_map f x.cell)

-- ---- reports

-- a thread that goes on is counted so
counted_running : (turns used : ℕ) (r : Report) (z : Option ThreadState) (s : ThreadState) (u : _) → z ≡ Some s → z ≡ Some (state_of (Running u) used) → count_execution turns s.used r s.execution ≡ count_unended turns used r
counted_running turns used r z s u e f = let same : s ≡ state_of (Running u) used = one_state z s (state_of (Running u) used) e f in ap (λ (x : ThreadState). count_execution turns x.used r x.execution) same
  where
    one_state : (z : Option ThreadState) (a b : ThreadState) → z ≡ Some a → z ≡ Some b → a ≡ b
    one_state z a b e f = cc (e, f)

counted_carried : (turns : ℕ) (w : World) (t a b : ℕ) (p : Packet) (r : Report) (z : Option ThreadState) (s : ThreadState) → z ≡ Some s → Carries turns w.memory.heap w.pending t z a b p
    → count_execution turns s.used r s.execution ≡ count_unended turns (used_of p) r
counted_carried turns w t a b (Request t2 k used depth self op) r z s e h = counted_running turns used r z s h.2.term e h.2.here
counted_carried turns w t a b (Reply t2 k used o) r z s e h = counted_running turns used r z s h.1.term e h.1.here

counted_ended : (turns used : ℕ) (r : Report) (f : Ref → ℕ) (site : ℕ) (x : Ending) (ex : Execution) → ex ≡ ending_of f x → count_execution turns used r ex ≡ count_place turns (EndedAt site x) r
counted_ended turns used r f site (ByValue v) ex e = ap (count_execution turns used r) e
counted_ended turns used r f site (ByException x) ex e = ap (count_execution turns used r) e

one_thread : (z : Option ThreadState) (a b : ThreadState) → z ≡ Some a → z ≡ Some b → a ≡ b
one_thread z a b e f = cc (e, f)

counted_at : (turns : ℕ) (w : World) (c : Config) → Stands turns w c → (t : ℕ) (r : Report) (s : ThreadState) (y : Place) → slice_get c.threads t ≡ Some s → IsAtPlace w t y → StandsAt turns w.memory.heap w.pending t (slice_get c.threads t) y
    → count_execution turns s.used r s.execution ≡ count_place turns y r
counted_at turns w c st t r s Nowhere e at h = absurd at
counted_at turns w c st t r s Absent e at h = absurd at
counted_at turns w c st t r s (At site slot) e at h = counted_running turns slot.used r (slice_get c.threads t) s h.term e h.here
counted_at turns w c st t r s (InLine a b p) e at h = counted_carried turns w t a b p r (slice_get c.threads t) s e h
counted_at turns w c st t r s (WaitsAt b x) e at h = counted_carried turns w t x.from b x.packet r (slice_get c.threads t) s e h
counted_at turns w c st t r s (EndedAt site x) e at h =
    let f : Ref → ℕ = reading w.memory 0 in
    let same : s ≡ state_of h.execution h.used = one_thread (slice_get c.threads t) s (state_of h.execution h.used) e h.here in
    ap (λ (z : ThreadState). count_execution turns z.used r z.execution) same ∙ counted_ended turns h.used r f site x h.execution (h.same f (reading_agrees w.memory c.store st.memory 0))

-- the place of a thread is the one where it is
in_fits : (place : ℕ → Place) (a b : ℕ) (ps : List Packet) (p : Packet) → Fits place a b ps → IsIn p ps → place (thread_of p) ≡ InLine a b p
in_fits place a b [] p fits i = absurd i
in_fits place a b (q ∷ qs) p fits (inl e) = subst (λ z. place (thread_of z) ≡ InLine a b z) e fits.0
in_fits place a b (q ∷ qs) p fits (inr i) = in_fits place a b qs p fits.2 i

one_place : (turns : ℕ) (w : World) (c : Config) (st : Stands turns w c) (t : ℕ) (y : Place) → IsAtPlace w t y → st.place t ≡ y
one_place turns w c st t Nowhere at = absurd at
one_place turns w c st t Absent at = absurd at
one_place turns w c st t (At s slot) at = st.placed.runs s t slot at
one_place turns w c st t (InLine a b p) at = subst (λ u. st.place u ≡ InLine a b p) at.0 (in_fits st.place a b (w.lines a b) p (st.placed.fits a b) at.1)
one_place turns w c st t (WaitsAt b x) at = st.placed.waits b t x at
one_place turns w c st t (EndedAt s e) at = st.placed.ends s t e at

-- the threads of a list from the t-th on
from_here : (turns : ℕ) (w : World) (c : Config) (place : ℕ → Place) → Stands turns w c → (ts : List ThreadState) (t : ℕ) → ((k : ℕ) → k < length ts → slice_get c.threads (t + k) ≡ slice_get ts k) → ((k : ℕ) → k < length ts → IsAtPlace w (t + k) (place (t + k)))
    → report_of turns ts ≡ report_from turns place t (length ts)
from_here turns w c place st [] t same at = refl
from_here turns w c place st (s ∷ ss) t same at =
    let here : slice_get c.threads t ≡ Some s = ap (slice_get c.threads) (plus t) ∙ same 0 (omega arith) in
    let own : IsAtPlace w t (place t) = subst (λ n. IsAtPlace w n (place n)) (sym (plus t)) (at 0 (omega arith)) in
    let rest : report_of turns ss ≡ report_from turns place (suc t) (length ss) = from_here turns w c place st ss (suc t) (λ k l. ap (slice_get c.threads) (shift t k) ∙ same (suc k) (omega arith)) (λ k l. subst (λ n. IsAtPlace w n (place n)) (sym (shift t k)) (at (suc k) (omega arith))) in
    let stands : StandsAt turns w.memory.heap w.pending t (slice_get c.threads t) (place t) = subst (StandsAt turns w.memory.heap w.pending t (slice_get c.threads t)) (one_place turns w c st t (place t) own) (st.threads t) in
    ap (λ r. count_execution turns s.used r s.execution) rest ∙ counted_at turns w c st t (report_from turns place (suc t) (length ss)) s (place t) here own stands
  where
    plus : (t : ℕ) → t ≡ t + 0
    plus t = omega arith

    shift : (t k : ℕ) → suc t + k ≡ t + suc k
    shift t k = omega arith

pub report_known : ReportKnown
report_known turns w c place st at =
    from_here turns w c place st c.threads 0 (λ k l. ap (slice_get c.threads) (none_more k)) (λ k l. subst (λ n. IsAtPlace w n (place n)) (sym (none_more k)) (at k (subst (λ n. k < n) st.counted l))) ∙ ap (report_from turns place 0) st.counted
  where
    none_more : (k : ℕ) → 0 + k ≡ k
    none_more k = omega arith
