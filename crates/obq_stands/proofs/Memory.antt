-- An act at the heap of a site is the act at the store.
use Rattle.std.specs.Prelude.{Bool, true, false, Option, Some, None, [], ◌∷◌, ◌++◌, ℕ, suc, ◌+◌, ◌<◌, length, nat_lt, slice_get, slice_set, refl, ◌≡◌, ◌⊎◌}
use Rattle.std.proofs.Common.{inl, inr, ap, sym, ◌∙◌, subst, arith}
use Rattle.std.proofs.lemmas.Bool.Decides.{nat_tests}
use Rattle.obq_model.specs.Store.{Cell, Store, same_loc}
use Rattle.obq_model.specs.Config.{with_cell, with_new_cell}
use Rattle.obq_model.specs.Maps.{map_cell}
use Rattle.obq_stands.specs.World.{Ref, same_ref, Born, Heap, with_ref, Memory, with_left, with_made}
use Rattle.obq_stands.specs.Stands.{Agrees, MemoryStands}
use Rattle.obq_stands.proofs.Update.{test_refl, test_no}
use Rattle.obq_stands.proofs.Refs.{code, code_same, ref_no, ref_refl, ref_or, with_ref_same, with_ref_other}
use Rattle.obq_model.proofs.Slices.{get_below, set_same, set_other, set_length, push_same, push_other, push_length}

-- ---- a map that agrees, with d elsewhere

abbrev pub born_or : ℕ → Option Born → ℕ
born_or d None = d
born_or d (Some x) = x.born

-- the number of the cell; a number that no cell has for another reference
abbrev pub reading : Memory → ℕ → Ref → ℕ
reading m d r = born_or (m.count + (d + code r)) (m.heap r)

one_by : (m : Memory) (st : Store ℕ) → MemoryStands m st → (d : ℕ) (a b : Ref) (o p : Option Born) → m.heap a ≡ o → m.heap b ≡ p → born_or (m.count + (d + code a)) o ≡ born_or (m.count + (d + code b)) p → a ≡ b
one_by m st h d a b (Some x) (Some y) e f k = h.apart a b x y e f k
one_by m st h d a b (Some x) None e f k = let l : x.born < m.count = h.below a x e in absurd (omega arith)
one_by m st h d a b None (Some y) e f k = let l : y.born < m.count = h.below b y f in absurd (omega arith)
one_by m st h d a b None None e f k = code_same a b (omega arith)

pub reading_agrees : (m : Memory) (st : Store ℕ) → MemoryStands m st → (d : ℕ) → Agrees (reading m d) m.heap
reading_agrees m st h d =
    record {
      cells = λ r x e. ap (born_or (m.count + (d + code r))) e;
      tells = λ a b. by a b (ref_or a b);
    }
  where
    by : (a b : Ref) → ((a ≡ b) ⊎ (a ≡ b → ⊥)) → same_loc (reading m d a) (reading m d b) ≡ same_ref a b
    by a b (inl e) = ap (λ x. same_loc (reading m d x) (reading m d b)) e ∙ test_refl (reading m d b) ∙ sym (ap (λ x. same_ref x b) e ∙ ref_refl b)
    by a b (inr ne) = test_no (reading m d a) (reading m d b) (λ k. ne (one_by m st h d a b (m.heap a) (m.heap b) refl refl k)) ∙ sym (ref_no a b ne)

-- ---- a cell is left changed

abbrev pub born_as : ℕ → Cell Ref → Born
born_as n cell = record { born = n; cell = cell }

-- which cell stands at a reference after a change
which : (h : Heap) (r : Ref) (z : Born) (q : Ref) (y : Born) → with_ref h r (Some z) q ≡ Some y → ((q ≡ r) ⊎ (q ≡ r → ⊥)) → ((q ≡ r) × (z ≡ y)) ⊎ ((q ≡ r → ⊥) × (h q ≡ Some y))
which h r z q y e (inl p) = inl (p, let k : with_ref h r (Some z) q ≡ Some z = rw p (with_ref_same h r (Some z)) in cc (k, e))
which h r z q y e (inr ne) = inr (ne, sym (with_ref_other h r (Some z) q ne) ∙ e)

abbrev Which : Heap → Ref → Born → Ref → Born → Type 0
Which h r z q y = ((q ≡ r) × (z ≡ y)) ⊎ ((q ≡ r → ⊥) × (h q ≡ Some y))

left_cells : (h : Heap) (r : Ref) (x : Born) (cell : Cell Ref) → h r ≡ Some x → (f : Ref → ℕ) → Agrees f (with_ref h r (Some (born_as x.born cell))) → (q : Ref) (y : Born) → h q ≡ Some y → ((q ≡ r) ⊎ (q ≡ r → ⊥)) → f q ≡ y.born
left_cells h r x cell here f a q y e (inl p) =
    let there : h q ≡ Some x = rw p here in
    let same : x ≡ y = cc (there, e) in
    a.cells q (born_as x.born cell) (rw p (with_ref_same h r (Some (born_as x.born cell)))) ∙ ap (λ (b : Born). b.born) same
left_cells h r x cell here f a q y e (inr ne) = a.cells q y (with_ref_other h r (Some (born_as x.born cell)) q ne ∙ e)

pub left_later : (h : Heap) (r : Ref) (x : Born) (cell : Cell Ref) → h r ≡ Some x → (f : Ref → ℕ) → Agrees f (with_ref h r (Some (born_as x.born cell))) → Agrees f h
left_later h r x cell here f a = record { cells = λ q y e. left_cells h r x cell here f a q y e (ref_or q r); tells = a.tells }

-- the cell that stood at a reference before the change had the same number
old_cell : (h : Heap) (r : Ref) (x : Born) (cell : Cell Ref) → h r ≡ Some x → (q : Ref) (y : Born) → Which h r (born_as x.born cell) q y → (z : Born) × (h q ≡ Some z) × (z.born ≡ y.born)
old_cell h r x cell here q y (inl p) = (x, rw p.0 here, ap (λ (b : Born). b.born) p.1)
old_cell h r x cell here q y (inr p) = (y, p.1, refl)

pub left_stands : (m : Memory) (st : Store ℕ) → MemoryStands m st → (r : Ref) (x : Born) (cell : Cell Ref) (cell2 : Cell ℕ) → m.heap r ≡ Some x → ((f : Ref → ℕ) → Agrees f m.heap → map_cell f cell ≡ cell2)
    → MemoryStands (with_left m r x.born (Some cell)) (with_cell st x.born cell2)
left_stands m st h r x cell cell2 here reads =
    let z : Born = born_as x.born cell in
    record {
      counted = set_length st.cells x.born cell2 ∙ h.counted;
      below = λ q y e. let o = old_cell m.heap r x cell here q y (which m.heap r z q y e (ref_or q r)) in subst (λ n. n < m.count) o.2 (h.below q o.0 o.1);
      apart = λ q q2 y y2 e e2 b.
          let o = old_cell m.heap r x cell here q y (which m.heap r z q y e (ref_or q r)) in
          let o2 = old_cell m.heap r x cell here q2 y2 (which m.heap r z q2 y2 e2 (ref_or q2 r)) in
          h.apart q q2 o.0 o2.0 o.1 o2.1 (o.2 ∙ b ∙ sym o2.2);
      covers = λ k l. let old = h.covers k l in by_cover k old.0 old.1 old.2 old.3 (ref_or old.0 r);
      cells = λ q y e f a. by_cell q y (which m.heap r z q y e (ref_or q r)) f (left_later m.heap r x cell here f a);
      names = λ f a. h.names f (left_later m.heap r x cell here f a);
    }
  where
    by_cover : (k : ℕ) (q : Ref) (y : Born) → m.heap q ≡ Some y → y.born ≡ k → ((q ≡ r) ⊎ (q ≡ r → ⊥)) → (q2 : Ref) × (y2 : Born) × (with_ref m.heap r (Some (born_as x.born cell)) q2 ≡ Some y2) × (y2.born ≡ k)
    by_cover k q y e b (inl p) =
        let there : m.heap q ≡ Some x = rw p here in
        let same : x ≡ y = cc (there, e) in
        (r, born_as x.born cell, with_ref_same m.heap r (Some (born_as x.born cell)), ap (λ (n : Born). n.born) same ∙ b)
    by_cover k q y e b (inr ne) = (q, y, with_ref_other m.heap r (Some (born_as x.born cell)) q ne ∙ e, b)

    by_cell : (q : Ref) (y : Born) → Which m.heap r (born_as x.born cell) q y → (f : Ref → ℕ) → Agrees f m.heap → slice_get (slice_set st.cells x.born cell2) y.born ≡ Some (map_cell f y.cell)
    by_cell q y (inl p) f a =
        let l : x.born < length st.cells = get_below st.cells x.born (map_cell f x.cell) (h.cells r x here f a) in
        ap (slice_get (slice_set st.cells x.born cell2)) (sym (ap (λ (b : Born). b.born) p.1)) ∙ set_same st.cells x.born cell2 l ∙ ap Some (sym (reads f a)) ∙ ap (λ (b : Born). Some (map_cell f b.cell)) p.1
    by_cell q y (inr p) f a = set_other st.cells x.born cell2 y.born (λ b. p.0 (h.apart q r y x p.1 here b)) ∙ h.cells q y p.1 f a

-- ---- a new cell

made_cells : (h : Heap) (r : Ref) (z : Born) → h r ≡ None → (f : Ref → ℕ) → Agrees f (with_ref h r (Some z)) → (q : Ref) (y : Born) → h q ≡ Some y → ((q ≡ r) ⊎ (q ≡ r → ⊥)) → f q ≡ y.born
made_cells h r z none f a q y e (inl p) = let gone : h q ≡ None = rw p none in absurd (cc (gone, e))
made_cells h r z none f a q y e (inr ne) = a.cells q y (with_ref_other h r (Some z) q ne ∙ e)

pub made_later : (h : Heap) (r : Ref) (z : Born) → h r ≡ None → (f : Ref → ℕ) → Agrees f (with_ref h r (Some z)) → Agrees f h
made_later h r z none f a = record { cells = λ q y e. made_cells h r z none f a q y e (ref_or q r); tells = a.tells }

last_by : (k n : ℕ) (b : Bool) → nat_lt k n ≡ b → k < suc n → (k ≡ n) ⊎ (k < n)
last_by k n true e l = inr (grind (arith, nat_tests))
last_by k n false e l = inl (grind (arith, nat_tests))

last_or : (k n : ℕ) → k < suc n → (k ≡ n) ⊎ (k < n)
last_or k n l = last_by k n (nat_lt k n) refl l

pub made_stands : (m : Memory) (st : Store ℕ) → MemoryStands m st → (r : Ref) (cell : Cell Ref) (cell2 : Cell ℕ) → m.heap r ≡ None → ((f : Ref → ℕ) → Agrees f m.heap → map_cell f cell ≡ cell2)
    → MemoryStands (with_made m r cell) (with_new_cell st cell2)
made_stands m st h r cell cell2 none reads =
    let z : Born = born_as m.count cell in
    record {
      counted = push_length st.cells cell2 ∙ ap suc h.counted;
      below = λ q y e. by_below q y (which m.heap r z q y e (ref_or q r));
      apart = λ q q2 y y2 e e2 b. by_apart q q2 y y2 (which m.heap r z q y e (ref_or q r)) (which m.heap r z q2 y2 e2 (ref_or q2 r)) b;
      covers = λ k l. by_cover k (last_or k m.count l);
      cells = λ q y e f a. by_cell q y (which m.heap r z q y e (ref_or q r)) f (made_later m.heap r z none f a);
      names = λ f a. h.names f (made_later m.heap r z none f a);
    }
  where
    by_below : (q : Ref) (y : Born) → Which m.heap r (born_as m.count cell) q y → y.born < suc m.count
    by_below q y (inl p) = let k : m.count ≡ y.born = ap (λ (b : Born). b.born) p.1 in omega arith
    by_below q y (inr p) = let k : y.born < m.count = h.below q y p.1 in omega arith

    by_apart : (q q2 : Ref) (y y2 : Born) → Which m.heap r (born_as m.count cell) q y → Which m.heap r (born_as m.count cell) q2 y2 → y.born ≡ y2.born → q ≡ q2
    by_apart q q2 y y2 (inl p) (inl p2) b = p.0 ∙ sym p2.0
    by_apart q q2 y y2 (inl p) (inr p2) b = let k : m.count ≡ y.born = ap (λ (n : Born). n.born) p.1 in let l : y2.born < m.count = h.below q2 y2 p2.1 in absurd (omega arith)
    by_apart q q2 y y2 (inr p) (inl p2) b = let k : m.count ≡ y2.born = ap (λ (n : Born). n.born) p2.1 in let l : y.born < m.count = h.below q y p.1 in absurd (omega arith)
    by_apart q q2 y y2 (inr p) (inr p2) b = h.apart q q2 y y2 p.1 p2.1 b

    by_cover : (k : ℕ) → ((k ≡ m.count) ⊎ (k < m.count)) → (q2 : Ref) × (y2 : Born) × (with_ref m.heap r (Some (born_as m.count cell)) q2 ≡ Some y2) × (y2.born ≡ k)
    by_cover k (inl e) = (r, born_as m.count cell, with_ref_same m.heap r (Some (born_as m.count cell)), sym e)
    by_cover k (inr l) =
        let old = h.covers k l in
        (old.0, old.1, with_ref_other m.heap r (Some (born_as m.count cell)) old.0 (λ e. let gone : m.heap old.0 ≡ None = rw e none in let is = old.2 in cc (gone, is)) ∙ old.2, old.3)

    by_cell : (q : Ref) (y : Born) → Which m.heap r (born_as m.count cell) q y → (f : Ref → ℕ) → Agrees f m.heap → slice_get (st.cells ++ cell2 ∷ []) y.born ≡ Some (map_cell f y.cell)
    by_cell q y (inl p) f a =
        ap (slice_get (st.cells ++ cell2 ∷ [])) (sym (ap (λ (b : Born). b.born) p.1) ∙ sym h.counted) ∙ push_same st.cells cell2 ∙ ap Some (sym (reads f a)) ∙ ap (λ (b : Born). Some (map_cell f b.cell)) p.1
    by_cell q y (inr p) f a =
        push_other st.cells cell2 y.born (λ k. let l : y.born < m.count = h.below q y p.1 in let c = h.counted in absurd (omega arith)) ∙ h.cells q y p.1 f a
