-- Cells stay where they are, with their numbers: so the writer of site k is cell k.
use Rattle.std.specs.Prelude.{None, Option, Some, [], length, nat_lt, refl, ℕ, ◌&&◌, ◌<◌, ◌≡◌, ◌⊎◌, if◌then◌else◌, true}
use Rattle.std.proofs.Common.{inl, inr, ap, sym, ◌∙◌, subst, arith}
use Rattle.std.proofs.lemmas.Bool.Decides.{nat_tests}
use Rattle.obq_base.specs.declared.acts.ActKind.{ActKind}
use Rattle.obq_model.specs.Store.{Cell, WriterCell}
use Rattle.obq_model.specs.Step.{Self, Operation}
use Rattle.obq_model.specs.Terms.{Term}
use Rattle.obq_stands.specs.World.{Ref, same_ref, Born, Heap, Memory, with_ref, with_left, with_made, Packet, Ending, World}
use Rattle.obq_stands.specs.Stands.{Does, OnCell, Makes, Retakes, Joins, Exports, Imports, TooMany}
use Rattle.obq_stands.specs.Events.{writer_at, Takes, OffLine, OffHold, Step, Steps, Acted, Forks, Finishes, Asks, Serves, Enters, Holds, Returns, Resumes}
use Rattle.obq_stands.specs.Facts.{CellsStay, HasWriters, WritersBegin, WritersKept, WatchWritersKept}
use Rattle.obq_stands.proofs.Refs.{ref_or, ref_refl, with_ref_same, with_ref_other}
use Rattle.obq_stands.proofs.Joined.{watch_step_is}

-- the cell of a reference is still there, with its number
abbrev Stays : Heap → Heap → Type 0
Stays h h2 = (r : Ref) (y : Born) → h r ≡ Some y → (z : Born) × (h2 r ≡ Some z) × (z.born ≡ y.born)

stays_left : (m : Memory) (q : Ref) (x : Born) (c : Option (Cell Ref)) → m.heap q ≡ Some x → Stays m.heap (with_left m q x.born c).heap
stays_left m q x None here r y e = (y, e, refl)
stays_left m q x (Some cell) here r y e = by (ref_or r q)
  where
    by : ((r ≡ q) ⊎ (r ≡ q → ⊥)) → (z : Born) × (with_ref m.heap q (Some (record { born = x.born; cell = cell })) r ≡ Some z) × (z.born ≡ y.born)
    by (inl p) =
        let there : m.heap r ≡ Some x = ap m.heap p ∙ here in
        let same : x ≡ y = cc (there, e) in
        (record { born = x.born; cell = cell }, rw p (with_ref_same m.heap q (Some (record { born = x.born; cell = cell }))), ap (λ (b : Born). b.born) same)
    by (inr ne) = (y, with_ref_other m.heap q (Some (record { born = x.born; cell = cell })) r ne ∙ e, refl)

stays_made : (m : Memory) (q : Ref) (cell : Cell Ref) → m.heap q ≡ None → Stays m.heap (with_made m q cell).heap
stays_made m q cell none r y e = by (ref_or r q)
  where
    by : ((r ≡ q) ⊎ (r ≡ q → ⊥)) → (z : Born) × (with_ref m.heap q (Some (record { born = m.count; cell = cell })) r ≡ Some z) × (z.born ≡ y.born)
    by (inl p) = absurd (let gone : m.heap r ≡ None = ap m.heap p ∙ none in cc (gone, e))
    by (inr ne) = (y, with_ref_other m.heap q (Some (record { born = m.count; cell = cell })) r ne ∙ e, refl)

does_stays : (m : Memory) (en : ℕ → ℕ → Option Ending) (threads t : ℕ) (s : Self Ref) (op : Operation Ref) (kind : ActKind) (loc : ℕ) (m2 : Memory) (x : Term Ref) → Does m en threads t s op kind loc m2 x → Stays m.heap m2.heap
does_stays m en threads t s op kind loc m2 x (OnCell _ r y _ c _ at here row) = stays_left m r y c here
does_stays m en threads t s op kind loc m2 x (Makes r cell after none) = stays_made m r cell none
does_stays m en threads t s op kind loc m2 x (Retakes o q guard y z _ left _ here there row) = stays_left m o y left here
does_stays m en threads t s op kind loc m2 x (Joins u b e is) = λ r y e. (y, e, refl)
does_stays m en threads t s op kind loc m2 x (Exports name v) = λ r y e. (y, e, refl)
does_stays m en threads t s op kind loc m2 x (Imports name engine _ _ row) = λ r y e. (y, e, refl)
does_stays m en threads t s op kind loc m2 x (TooMany v many) = λ r y e. (y, e, refl)

takes_memory : (w : World) (a b : ℕ) (p : Packet) (w1 : World) → Takes w a b p w1 → w1.memory ≡ w.memory
takes_memory w a b p w1 (OffLine ps is) = refl
takes_memory w a b p w1 (OffHold is) = refl

-- a packet that is taken leaves all cells
taken : (w : World) (a b : ℕ) (p : Packet) (w1 : World) → Takes w a b p w1 → (r : Ref) (y : Born) → w.memory.heap r ≡ Some y → (z : Born) × (w1.memory.heap r ≡ Some z) × (z.born ≡ y.born)
taken w a b p w1 k r y e = (y, ap (λ (m : Memory). m.heap r) (takes_memory w a b p w1 k) ∙ e, refl)

pub cells_stay : CellsStay
cells_stay turns w x r y (Steps _ s t n slot u a b c) e = (y, e, refl)
cells_stay turns w x r y (Acted _ s t n slot u op hs kind loc m z a b c d does) e = does_stays w.memory w.ended w.threads t _ op kind loc m z does r y e
cells_stay turns w x r y (Forks _ s t n slot u v hs a b c d few) e = (y, e, refl)
cells_stay turns w x r y (Finishes _ s t n slot u z a b c d f) e = (y, e, refl)
cells_stay turns w x r y (Asks _ s t to k slot op hs a b c d) e = (y, e, refl)
cells_stay turns w x r y (Serves _ w1 a b t k used depth self op kind loc m z o takes may does gives) e = does_stays w.memory w.ended w.threads t self op kind loc m z does r y e
cells_stay turns w x r y (Enters _ w1 a b t k used depth self op kind loc m z v takes call does enters) e = does_stays w.memory w.ended w.threads t self op kind loc m z does r y e
cells_stay turns w x r y (Holds _ w1 a b t k used depth self op takes) e = taken w a b _ w1 takes r y e
cells_stay turns w x r y (Returns _ s t slot call o a b c) e = (y, e, refl)
cells_stay turns w x r y (Resumes _ w1 a b t k used o z op hs takes here needs) e = taken w a b _ w1 takes r y e

pub writers_kept : WritersKept
writers_kept turns sites w x h s k l =
    let old = h k l in
    let new = cells_stay turns w x (writer_at k) old.0 s old.1 in
    (new.0, new.1, new.2 ∙ old.2)

below_test : (k n : ℕ) → k < n → nat_lt k n ≡ true
below_test k n l = grind (arith, nat_tests)

pub writers_begin : WritersBegin
writers_begin xs k l = (
  record { born = k; cell = WriterCell [] },
  ap (λ b. if b && same_ref (writer_at k) (writer_at k) then Some (record { born = k; cell = WriterCell [] }) else None) (below_test k (length xs) l)
      ∙ ap (λ b. if b then Some (record { born = k; cell = WriterCell [] }) else None) (ref_refl (writer_at k)),
  refl,
)

pub watch_writers_kept : WatchWritersKept
watch_writers_kept trees turns sites w x e e2 i h s = by (watch_step_is trees turns w x e e2 i s)
  where
    by : (Step turns w x ⊎ (x ≡ w)) → HasWriters sites x
    by (inl k) = writers_kept turns sites w x h k
    by (inr same) = subst (HasWriters sites) (sym same) h
