-- What the sites hold and do next is known: each reference names a cell of its kind.
use Rattle.std.specs.Prelude.{List, None, Option, Some, [], length, refl, slice_get, ℕ, suc, zero, ◌+◌, ◌<◌, ◌∷◌, ◌≡◌}
use Rattle.std.proofs.Common.{subst, ap, sym, ◌∙◌, arith}
use Rattle.obq_model.specs.Terms.{LocKind, Term}
use Rattle.obq_model.specs.Store.{Cell, Store}
use Rattle.obq_model.specs.Config.{Running, ThreadState, Config}
use Rattle.obq_model.specs.Maps.{map_term, map_cell}
use Rattle.obq_laws.specs.Known.{Places, Threads, HasKind, IsPlace, Counted, Numbered, IsKnown, IsKnownCell, IsKnownOperation, IsKnownExecution, AreKnownCells, AreKnownThreads}
use Rattle.obq_laws.specs.Turns.{state_of}
use Rattle.obq_laws.proofs.KnownReplay.{references_law, next_is_known}
use Rattle.obq_stands.specs.World.{Ref, Born, Memory}
use Rattle.obq_stands.specs.Stands.{Agrees, MemoryStands, around}
use Rattle.obq_stands.specs.Facts.{IsCellOf, NextKnown, CellKnown, WindowKnown}
use Rattle.obq_model.proofs.Slices.{get_below}
use Rattle.obq_stands.proofs.Memory.{born_or, reading, reading_agrees}
use Rattle.obq_stands.proofs.Refs.{code}
use Rattle.obq_stands.proofs.Moves.{out_running}
use Rattle.obq_stands.proofs.Next.{next_in}
use Rattle.obq_stands.proofs.KnownBack.{Back, known_back, cell_back, operation_back, known_hole, map_location_kind}

-- a number with a cell of this kind is one that is there
place_below : (st : Store ℕ) (kind : LocKind) (n : ℕ) (o : Option (Cell ℕ)) → slice_get st.cells n ≡ o → HasKind kind o → n < length st.cells
place_below st kind n None e h = absurd h
place_below st kind n (Some c) e h = get_below st.cells n c e

-- under this reading a number that has a cell is that of a reference that has one
read_back : (m : Memory) (st : Store ℕ) → MemoryStands m st → Back (reading m 0) (IsPlace st) (IsCellOf m.heap)
read_back m st h kind r is = by (m.heap r) refl
  where
    f : Ref → ℕ
    f = reading m 0

    a : Agrees f m.heap
    a = reading_agrees m st h 0

    by : (o : Option Born) → m.heap r ≡ o → IsCellOf m.heap kind r
    by None e =
        let n : f r ≡ m.count + (0 + code r) = ap (born_or (m.count + (0 + code r))) e in
        let l : f r < length st.cells = place_below st kind (f r) (slice_get st.cells (f r)) refl is in
        let c = h.counted in
        absurd (omega (arith, n, l, c))
    by (Some x) e =
        let cell : slice_get st.cells (f r) ≡ Some (map_cell f x.cell) = ap (slice_get st.cells) (a.cells r x e) ∙ h.cells r x e f a in
        (x, e, sym (map_location_kind f x.cell) ∙ subst (HasKind kind) cell is)

pub next_known : NextKnown
next_known trees turns w t op i next =
    let c : Config = i.config in
    let m : Memory = w.memory in
    let f : Ref → ℕ = reading m 0 in
    let k = next_in turns w c t op i.stands next in
    let known : IsKnownOperation (IsPlace c.store) (Counted trees c.threads) k.read = next_is_known trees turns w.journal c t k.used k.term k.read k.frames i.replays k.here k.found in
    let mapped = subst (IsKnownOperation (IsPlace c.store) (Counted trees c.threads)) (k.one f (reading_agrees m c.store i.stands.memory 0)) known in
    let back : IsKnownOperation (IsCellOf m.heap) (Counted trees c.threads) k.asked = operation_back f (IsPlace c.store) (IsCellOf m.heap) (Counted trees c.threads) (read_back m c.store i.stands.memory) k.asked mapped in
    (k.asked, k.is, subst (λ n. IsKnownOperation (IsCellOf m.heap) (Numbered trees n) k.asked) i.stands.counted back)

known_get : (L : Places ℕ) (T : Threads) (cs : List (Cell ℕ)) (k : ℕ) (c : Cell ℕ) → AreKnownCells L T cs → slice_get cs k ≡ Some c → IsKnownCell L T c
known_get L T [] k c h e = absurd (cc e)
known_get L T (x ∷ xs) zero c h e = let same : x ≡ c = cc e in subst (IsKnownCell L T) same h.0
known_get L T (x ∷ xs) (suc k) c h e = known_get L T xs k c h.1 e

pub cell_known : CellKnown
cell_known trees turns w r x i here =
    let c : Config = i.config in
    let m : Memory = w.memory in
    let f : Ref → ℕ = reading m 0 in
    let known : IsKnownCell (IsPlace c.store) (Counted trees c.threads) (map_cell f x.cell) =
    known_get (IsPlace c.store) (Counted trees c.threads) c.store.cells x.born (map_cell f x.cell) (references_law trees turns w.journal c i.replays).0.0 (i.stands.memory.cells r x here f (reading_agrees m c.store i.stands.memory 0)) in
    let back : IsKnownCell (IsCellOf m.heap) (Counted trees c.threads) x.cell = cell_back f (IsPlace c.store) (IsCellOf m.heap) (Counted trees c.threads) (read_back m c.store i.stands.memory) x.cell known in
    subst (λ n. IsKnownCell (IsCellOf m.heap) (Numbered trees n) x.cell) i.stands.counted back

known_thread : (L : Places ℕ) (T : Threads) (ts : List ThreadState) (t used : ℕ) (u : Term ℕ) → AreKnownThreads L T ts → slice_get ts t ≡ Some (state_of (Running u) used) → IsKnown L T u
known_thread L T [] t used u h e = absurd (cc e)
known_thread L T (s ∷ ss) zero used u h e = let same : s ≡ state_of (Running u) used = cc e in subst (λ (z : ThreadState). IsKnownExecution L T z.execution) same h.0
known_thread L T (s ∷ ss) (suc t) used u h e = known_thread L T ss t used u h.1 e

pub window_known : WindowKnown
window_known trees turns w s t slot i is =
    let c : Config = i.config in
    let m : Memory = w.memory in
    let f : Ref → ℕ = reading m 0 in
    let a : Agrees f m.heap = reading_agrees m c.store i.stands.memory 0 in
    let goes = (out_running turns w c s t slot i.stands is).1 in
    let known : IsKnown (IsPlace c.store) (Counted trees c.threads) goes.term = known_thread (IsPlace c.store) (Counted trees c.threads) c.threads t slot.used goes.term (references_law trees turns w.journal c i.replays).1 goes.here in
    let mapped = known_hole (IsPlace c.store) (Counted trees c.threads) (around f goes.reads.links) (map_term f slot.segment.window) (subst (IsKnown (IsPlace c.store) (Counted trees c.threads)) (goes.reads.same f a) known) in
    let back : IsKnown (IsCellOf m.heap) (Counted trees c.threads) slot.segment.window = known_back f (IsPlace c.store) (IsCellOf m.heap) (Counted trees c.threads) (read_back m c.store i.stands.memory) slot.segment.window mapped in
    subst (λ n. IsKnown (IsCellOf m.heap) (Numbered trees n) slot.segment.window) i.stands.counted back
