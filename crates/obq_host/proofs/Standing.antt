-- What stands in the heap that cells read back as, before and behind a change.
use Rattle.std.specs.Prelude.{Bool, List, None, Option, Some, [], false, if◌then◌else◌, length, map, option_map, refl, slice_get, slice_set, suc, true, zero, ℕ, ◌++◌, ◌==◌, ◌∷◌, ◌≡◌, ◌⊎◌}
use Rattle.std.proofs.Common.{ap, arith, inl, inr, subst, sym, ◌∙◌}
use Rattle.std.proofs.lemmas.Option.{slice_get_past}
use Rattle.obq_base.specs.declared.places.Kind.{Kind}
use Rattle.obq_base.specs.declared.places.Ref.{Ref}
use Rattle.obq_builtin.specs.Reading.{kind_of}
use Rattle.obq_heap.specs.Cells.{is_kind}
use Rattle.obq_heap.specs.Heap as held
use Rattle.obq_heap.specs.Heap.{Heap, placed_at}
use Rattle.obq_heap.specs.declared.cells.Cell.{Cell}
use Rattle.obq_heap.specs.declared.cells.Placed.{Placed}
use Rattle.obq_host.specs.Seen.{HeapIs, heap_of, of_kind, seen_placed}
use Rattle.obq_model.specs.Builtins.{kind_number}
use Rattle.obq_model.specs.OneCell.{SameKind}
use Rattle.obq_model.proofs.Slices.{get_below, push_other, push_same, set_other, set_same}
use Rattle.obq_answers.specs.Worlds.{seen, seen_cell}
use Rattle.obq_site.specs.Cells.{PlainHeap, PlainPlaced, left_at, left_in, one_more, placed_with, plain_cell, plain_heap, plain_placed}
use Rattle.obq_site.specs.Making.{kind_for, next_ref}
use Rattle.obq_stands.specs.Sites as sites
use Rattle.obq_stands.specs.World as world
use Rattle.obq_stands.specs.World.{same_ref, with_ref}
use Rattle.obq_stands.proofs.Refs.{ref_or, ref_same, with_ref_other, with_ref_same}
use Rattle.obq_stands.proofs.Update.{same_or, test_refl, test_same}
use Rattle.obq_windows.specs.Rows.{CompleteCell, CompleteLeft, PlainArray, PlainCell, PlainCondition, PlainEngine, PlainObject, PlainVariable, PlainWriter}
use Rattle.obq_windows.specs.Values.{Table}

-- ---- a reference of the site

kind_test : (kind : Kind) (cell : Cell) → (kind_number (kind_of (kind_for (plain_cell cell))) == kind_number (kind_of kind)) ≡ is_kind kind cell
kind_test Kind.Object (Cell.Object flags owner fields) = refl
kind_test Kind.Object (Cell.Array vs) = refl
kind_test Kind.Object (Cell.Variable v) = refl
kind_test Kind.Object (Cell.Writer bytes) = refl
kind_test Kind.Object (Cell.Condition line) = refl
kind_test Kind.Object (Cell.Engine v) = refl
kind_test Kind.Array (Cell.Object flags owner fields) = refl
kind_test Kind.Array (Cell.Array vs) = refl
kind_test Kind.Array (Cell.Variable v) = refl
kind_test Kind.Array (Cell.Writer bytes) = refl
kind_test Kind.Array (Cell.Condition line) = refl
kind_test Kind.Array (Cell.Engine v) = refl
kind_test Kind.Variable (Cell.Object flags owner fields) = refl
kind_test Kind.Variable (Cell.Array vs) = refl
kind_test Kind.Variable (Cell.Variable v) = refl
kind_test Kind.Variable (Cell.Writer bytes) = refl
kind_test Kind.Variable (Cell.Condition line) = refl
kind_test Kind.Variable (Cell.Engine v) = refl
kind_test Kind.Writer (Cell.Object flags owner fields) = refl
kind_test Kind.Writer (Cell.Array vs) = refl
kind_test Kind.Writer (Cell.Variable v) = refl
kind_test Kind.Writer (Cell.Writer bytes) = refl
kind_test Kind.Writer (Cell.Condition line) = refl
kind_test Kind.Writer (Cell.Engine v) = refl
kind_test Kind.Condition (Cell.Object flags owner fields) = refl
kind_test Kind.Condition (Cell.Array vs) = refl
kind_test Kind.Condition (Cell.Variable v) = refl
kind_test Kind.Condition (Cell.Writer bytes) = refl
kind_test Kind.Condition (Cell.Condition line) = refl
kind_test Kind.Condition (Cell.Engine v) = refl
kind_test Kind.Engine (Cell.Object flags owner fields) = refl
kind_test Kind.Engine (Cell.Array vs) = refl
kind_test Kind.Engine (Cell.Variable v) = refl
kind_test Kind.Engine (Cell.Writer bytes) = refl
kind_test Kind.Engine (Cell.Condition line) = refl
kind_test Kind.Engine (Cell.Engine v) = refl

get_map : {A B : Type 0} → (f : A → B) (xs : List A) (i : ℕ) → slice_get (map f xs) i ≡ option_map f (slice_get xs i)
get_map f [] i = refl
get_map f (x ∷ xs) zero = refl
get_map f (x ∷ xs) (suc i) = get_map f xs i

by_kind : (b : Bool) (p : Placed) → (if b then Some (plain_placed p) else None) ≡ option_map plain_placed (if b then Some p else None)
by_kind true p = refl
by_kind false p = refl

kind_seen : (kind : Kind) (o : Option Placed) → of_kind (kind_of kind) (option_map plain_placed o) ≡ option_map plain_placed (held.of_kind kind o)
kind_seen kind None = refl
kind_seen kind (Some p) = ap (λ b. if b then Some (plain_placed p) else None) (kind_test kind p.cell) ∙ by_kind (is_kind kind p.cell) p

at_site : (T : Table Ref) (b : Bool) (o : Option Placed) → (if b then option_map (seen_placed T) (option_map plain_placed o) else None) ≡ option_map (seen_placed T) (option_map plain_placed (if b then o else None))
at_site T true o = refl
at_site T false o = refl

-- under a reference of this machine stands the cell that it names
pub seen_at : (T : Table Ref) (h : Heap) (r : Ref) → heap_of T (plain_heap h) (seen r) ≡ option_map (seen_placed T) (option_map plain_placed (placed_at h r))
seen_at T h r =
    ap (λ o. if h.site.0 == r.site.0 then option_map (seen_placed T) o else None) (ap (of_kind (kind_of r.kind)) (get_map plain_placed h.cells r.n) ∙ kind_seen r.kind (slice_get h.cells r.n))
    ∙ at_site T (h.site.0 == r.site.0) (held.of_kind r.kind (slice_get h.cells r.n))

-- ---- a cell that a reference names

pub record IsNamed (h : PlainHeap) (r : world.Ref) (p : PlainPlaced) : Type 0 where
  pub site : h.site.0 ≡ r.site
  pub there : slice_get h.cells r.index ≡ Some p
  pub kind : kind_number (kind_of (kind_for p.cell)) ≡ kind_number r.kind

if_some : {A : Type 0} → (b : Bool) (o : Option A) (x : A) → (if b then o else None) ≡ Some x → (b ≡ true) × (o ≡ Some x)
if_some true o x h = (refl, h)
if_some false o x h = absurd (cc h)

kind_some : (kind : Kind) (o : Option Placed) (p : Placed) → held.of_kind kind o ≡ Some p → (o ≡ Some p) × (is_kind kind p.cell ≡ true)
kind_some kind None p h = absurd (cc h)
kind_some kind (Some q) p h =
    let d : (is_kind kind q.cell ≡ true) × (Some q ≡ Some p) = if_some (is_kind kind q.cell) (Some q) p h in
    let same : q ≡ p = cc d.1 in
    (d.1, subst (λ (z : Placed). is_kind kind z.cell ≡ true) same d.0)

pub named : (h : Heap) (r : Ref) (p : Placed) → placed_at h r ≡ Some p → IsNamed (plain_heap h) (seen r) (plain_placed p)
named h r p e =
    let a : ((h.site.0 == r.site.0) ≡ true) × (held.of_kind r.kind (slice_get h.cells r.n) ≡ Some p) = if_some (h.site.0 == r.site.0) (held.of_kind r.kind (slice_get h.cells r.n)) p e in
    let b : (slice_get h.cells r.n ≡ Some p) × (is_kind r.kind p.cell ≡ true) = kind_some r.kind (slice_get h.cells r.n) p a.1 in
    record {
      site = test_same h.site.0 r.site.0 a.0;
      there = get_map plain_placed h.cells r.n ∙ ap (option_map plain_placed) b.0;
      kind = test_same (kind_number (kind_of (kind_for (plain_cell p.cell)))) (kind_number (kind_of r.kind)) (kind_test r.kind p.cell ∙ b.1);
    }

-- a reference is told by its numbers
by_numbers : (q r : world.Ref) → q.site ≡ r.site → kind_number q.kind ≡ kind_number r.kind → q.index ≡ r.index → q ≡ r
by_numbers q r e f g = ref_same q r (let s : same_ref q r ≡ true = rw (e, f, g) (rw (test_refl r.site, test_refl (kind_number r.kind), test_refl r.index) refl) in s)

-- ---- a cell that is left changed

abbrev set_in : PlainHeap → ℕ → PlainPlaced → PlainHeap
set_in h n p = record { site = h.site; cells = slice_set h.cells n p }

abbrev found : Table Ref → (b : Bool) → (c : Bool) → PlainPlaced → Option world.Born
found T b c p = if b then option_map (seen_placed T) (if c then Some p else None) else None

not_both : (T : Table Ref) (b c : Bool) (x y : PlainPlaced) → (b ≡ true → c ≡ true → ⊥) → found T b c x ≡ found T b c y
not_both T true true x y ne = absurd (ne refl refl)
not_both T true false x y ne = refl
not_both T false c x y ne = refl

found_none : (T : Table Ref) (b c : Bool) (x : PlainPlaced) → (b ≡ true → c ≡ true → ⊥) → found T b c x ≡ None
found_none T true true x ne = absurd (ne refl refl)
found_none T true false x ne = refl
found_none T false c x ne = refl

no_cell : (T : Table Ref) (b : Bool) → (if b then option_map (seen_placed T) None else None) ≡ None
no_cell T true = refl
no_cell T false = refl

abbrev with_place : Table Ref → PlainHeap → world.Ref → Option PlainPlaced → Option world.Born
with_place T h q o = if h.site.0 == q.site then option_map (seen_placed T) (of_kind q.kind o) else None

-- another reference of a place names nothing there
other_name : (h : PlainHeap) (r q : world.Ref) (p : PlainPlaced) → h.site.0 ≡ r.site → kind_number (kind_of (kind_for p.cell)) ≡ kind_number r.kind → (q ≡ r → ⊥) → q.index ≡ r.index
    → (h.site.0 == q.site) ≡ true → (kind_number (kind_of (kind_for p.cell)) == kind_number q.kind) ≡ true → ⊥
other_name h r q p e f ne g b c =
    ne (by_numbers q r (sym (test_same h.site.0 q.site b) ∙ e) (sym (test_same (kind_number (kind_of (kind_for p.cell))) (kind_number q.kind) c) ∙ f) g)

-- what stands under the place's own reference
own_name : (T : Table Ref) (h : PlainHeap) (r : world.Ref) (p : PlainPlaced) → h.site.0 ≡ r.site → kind_number (kind_of (kind_for p.cell)) ≡ kind_number r.kind → with_place T h r (Some p) ≡ Some (seen_placed T p)
own_name T h r p e f = ap (λ b. found T b (kind_number (kind_of (kind_for p.cell)) == kind_number r.kind) p) (ap (λ n. n == r.site) e ∙ test_refl r.site) ∙ ap (λ c. found T true c p) (ap (λ n. n == kind_number r.kind) f ∙ test_refl (kind_number r.kind))

set_elsewhere : (T : Table Ref) (h : PlainHeap) (r : world.Ref) (p p2 : PlainPlaced) → IsNamed h r p → kind_for p2.cell ≡ kind_for p.cell → (q : world.Ref) → (q ≡ r → ⊥) → ((q.index ≡ r.index) ⊎ (q.index ≡ r.index → ⊥)) → heap_of T (set_in h r.index p2) q ≡ heap_of T h q
set_elsewhere T h r p p2 n k q ne (inr other) = ap (with_place T h q) (set_other h.cells r.index p2 q.index other)
set_elsewhere T h r p p2 n k q ne (inl same) =
    ap (λ i. with_place T h q (slice_get (slice_set h.cells r.index p2) i)) same ∙ ap (with_place T h q) (set_same h.cells r.index p2 (get_below h.cells r.index p n.there))
    ∙ ap (λ (z : Kind). found T (h.site.0 == q.site) (kind_number (kind_of z) == kind_number q.kind) p2) k
    ∙ not_both T (h.site.0 == q.site) (kind_number (kind_of (kind_for p.cell)) == kind_number q.kind) p2 p (other_name h r q p n.site n.kind ne same)
    ∙ sym (ap (λ i. with_place T h q (slice_get h.cells i)) same ∙ ap (with_place T h q) n.there)

set_there : (T : Table Ref) (h : PlainHeap) (r : world.Ref) (p p2 : PlainPlaced) → IsNamed h r p → kind_for p2.cell ≡ kind_for p.cell → heap_of T (set_in h r.index p2) r ≡ Some (seen_placed T p2)
set_there T h r p p2 n k = ap (with_place T h r) (set_same h.cells r.index p2 (get_below h.cells r.index p n.there)) ∙ own_name T h r p2 n.site (ap (λ (z : Kind). kind_number (kind_of z)) k ∙ n.kind)

set_reads : (T : Table Ref) (h : PlainHeap) (r : world.Ref) (p p2 : PlainPlaced) → IsNamed h r p → kind_for p2.cell ≡ kind_for p.cell → (g : world.Heap) → ((q : world.Ref) → g q ≡ heap_of T h q) → (q : world.Ref) → ((q ≡ r) ⊎ (q ≡ r → ⊥))
    → with_ref g r (Some (seen_placed T p2)) q ≡ heap_of T (set_in h r.index p2) q
set_reads T h r p p2 n k g reads q (inl e) = ap (with_ref g r (Some (seen_placed T p2))) e ∙ with_ref_same g r (Some (seen_placed T p2)) ∙ sym (set_there T h r p p2 n k) ∙ ap (heap_of T (set_in h r.index p2)) (sym e)
set_reads T h r p p2 n k g reads q (inr ne) = with_ref_other g r (Some (seen_placed T p2)) q ne ∙ reads q ∙ sym (set_elsewhere T h r p p2 n k q ne (same_or q.index r.index))

set_complete : (T : Table Ref) (h : PlainHeap) (n : ℕ) (p p2 : PlainPlaced) → slice_get h.cells n ≡ Some p → CompleteCell T p2.cell → ((m : ℕ) (x : PlainPlaced) → slice_get h.cells m ≡ Some x → CompleteCell T x.cell)
    → (m : ℕ) (x : PlainPlaced) → slice_get (slice_set h.cells n p2) m ≡ Some x → ((m ≡ n) ⊎ (m ≡ n → ⊥)) → CompleteCell T x.cell
set_complete T h n p p2 there c old m x e (inl same) =
    let at : Some p2 ≡ Some x = sym (ap (slice_get (slice_set h.cells n p2)) same ∙ set_same h.cells n p2 (get_below h.cells n p there)) ∙ e in
    let is : p2 ≡ x = cc at in
    subst (λ (z : PlainPlaced). CompleteCell T z.cell) is c
set_complete T h n p p2 there c old m x e (inr other) = old m x (sym (set_other h.cells n p2 m other) ∙ e)

set_is : (T : Table Ref) (h : PlainHeap) (r : world.Ref) (p p2 : PlainPlaced) → IsNamed h r p → kind_for p2.cell ≡ kind_for p.cell → CompleteCell T p2.cell → (g : world.Heap) → HeapIs T h g → HeapIs T (set_in h r.index p2) (with_ref g r (Some (seen_placed T p2)))
set_is T h r p p2 n k c g i =
    record {
      reads = λ q. set_reads T h r p p2 n k g i.reads q (ref_or q r);
      complete = λ m x e. set_complete T h r.index p p2 n.there c i.complete m x e (same_or m r.index);
      site = i.site;
    }

-- what is left has the kind of the cell
abbrev pub KindKept : PlainCell Ref → Option (PlainCell Ref) → Type 0
KindKept cell None = Unit {0}
KindKept cell (Some c) = kind_for c ≡ kind_for cell

left_by : (T : Table Ref) (h : Heap) (r : Ref) (p : Placed) → placed_at h r ≡ Some p → (left : Option (PlainCell Ref)) → KindKept (plain_cell p.cell) left → CompleteLeft T left → (g : world.Heap) → HeapIs T (plain_heap h) g
    → HeapIs T (left_at h r.n (Some p) left) (sites.left_at g (seen r) p.born (option_map (seen_cell T) left))
left_by T h r p e None k c g i = i
left_by T h r p e (Some cell) k c g i = set_is T (plain_heap h) (seen r) (plain_placed p) (placed_with cell p.born) (named h r p e) k c g i

-- the cells behind a row at one
pub left_reads : (T : Table Ref) (h : Heap) (r : Ref) (p : Placed) → placed_at h r ≡ Some p → (left : Option (PlainCell Ref)) → KindKept (plain_cell p.cell) left → CompleteLeft T left → (g : world.Heap) → HeapIs T (plain_heap h) g
    → HeapIs T (left_in h r left) (sites.left_at g (seen r) p.born (option_map (seen_cell T) left))
left_reads T h r p e left k c g i = subst (λ (o : Option Placed). HeapIs T (left_at h r.n o left) (sites.left_at g (seen r) p.born (option_map (seen_cell T) left))) (sym e) (left_by T h r p e left k c g i)

pub kinds_same : (T : Table Ref) (a b : PlainCell Ref) → SameKind (Some (seen_cell T a)) (Some (seen_cell T b)) → kind_for b ≡ kind_for a
kinds_same T (PlainObject flags owner fields) (PlainObject flags2 owner2 fields2) s = refl
kinds_same T (PlainObject flags owner fields) (PlainArray vs2) s = absurd s
kinds_same T (PlainObject flags owner fields) (PlainVariable v2) s = absurd s
kinds_same T (PlainObject flags owner fields) (PlainWriter bytes2) s = absurd s
kinds_same T (PlainObject flags owner fields) (PlainCondition line2) s = absurd s
kinds_same T (PlainObject flags owner fields) (PlainEngine e2) s = absurd s
kinds_same T (PlainArray vs) (PlainObject flags2 owner2 fields2) s = absurd s
kinds_same T (PlainArray vs) (PlainArray vs2) s = refl
kinds_same T (PlainArray vs) (PlainVariable v2) s = absurd s
kinds_same T (PlainArray vs) (PlainWriter bytes2) s = absurd s
kinds_same T (PlainArray vs) (PlainCondition line2) s = absurd s
kinds_same T (PlainArray vs) (PlainEngine e2) s = absurd s
kinds_same T (PlainVariable v) (PlainObject flags2 owner2 fields2) s = absurd s
kinds_same T (PlainVariable v) (PlainArray vs2) s = absurd s
kinds_same T (PlainVariable v) (PlainVariable v2) s = refl
kinds_same T (PlainVariable v) (PlainWriter bytes2) s = absurd s
kinds_same T (PlainVariable v) (PlainCondition line2) s = absurd s
kinds_same T (PlainVariable v) (PlainEngine e2) s = absurd s
kinds_same T (PlainWriter bytes) (PlainObject flags2 owner2 fields2) s = absurd s
kinds_same T (PlainWriter bytes) (PlainArray vs2) s = absurd s
kinds_same T (PlainWriter bytes) (PlainVariable v2) s = absurd s
kinds_same T (PlainWriter bytes) (PlainWriter bytes2) s = refl
kinds_same T (PlainWriter bytes) (PlainCondition line2) s = absurd s
kinds_same T (PlainWriter bytes) (PlainEngine e2) s = absurd s
kinds_same T (PlainCondition line) (PlainObject flags2 owner2 fields2) s = absurd s
kinds_same T (PlainCondition line) (PlainArray vs2) s = absurd s
kinds_same T (PlainCondition line) (PlainVariable v2) s = absurd s
kinds_same T (PlainCondition line) (PlainWriter bytes2) s = absurd s
kinds_same T (PlainCondition line) (PlainCondition line2) s = refl
kinds_same T (PlainCondition line) (PlainEngine e2) s = absurd s
kinds_same T (PlainEngine e) (PlainObject flags2 owner2 fields2) s = absurd s
kinds_same T (PlainEngine e) (PlainArray vs2) s = absurd s
kinds_same T (PlainEngine e) (PlainVariable v2) s = absurd s
kinds_same T (PlainEngine e) (PlainWriter bytes2) s = absurd s
kinds_same T (PlainEngine e) (PlainCondition line2) s = absurd s
kinds_same T (PlainEngine e) (PlainEngine e2) s = refl

-- ---- a new cell

abbrev push_in : PlainHeap → PlainPlaced → PlainHeap
push_in h p = record { site = h.site; cells = h.cells ++ p ∷ [] }

-- the reference of the next cell
pub record IsNext (h : PlainHeap) (r : world.Ref) (p : PlainPlaced) : Type 0 where
  pub site : h.site.0 ≡ r.site
  pub index : r.index ≡ length h.cells
  pub kind : kind_number (kind_of (kind_for p.cell)) ≡ kind_number r.kind

past : (h : PlainHeap) (i : ℕ) → i ≡ length h.cells → slice_get h.cells i ≡ None
past h i e = slice_get_past h.cells i (omega (arith, e))

-- nothing is there yet
next_none : (T : Table Ref) (h : PlainHeap) (r : world.Ref) (p : PlainPlaced) → IsNext h r p → heap_of T h r ≡ None
next_none T h r p n = ap (with_place T h r) (past h r.index n.index) ∙ no_cell T (h.site.0 == r.site)

push_elsewhere : (T : Table Ref) (h : PlainHeap) (r : world.Ref) (p : PlainPlaced) → IsNext h r p → (q : world.Ref) → (q ≡ r → ⊥) → ((q.index ≡ r.index) ⊎ (q.index ≡ r.index → ⊥)) → heap_of T (push_in h p) q ≡ heap_of T h q
push_elsewhere T h r p n q ne (inr other) = ap (with_place T h q) (push_other h.cells p q.index (λ e. other (e ∙ sym n.index)))
push_elsewhere T h r p n q ne (inl same) =
    ap (λ i. with_place T h q (slice_get (h.cells ++ p ∷ []) i)) (same ∙ n.index) ∙ ap (with_place T h q) (push_same h.cells p)
    ∙ found_none T (h.site.0 == q.site) (kind_number (kind_of (kind_for p.cell)) == kind_number q.kind) p (other_name h r q p n.site n.kind ne same)
    ∙ sym (ap (with_place T h q) (past h q.index (same ∙ n.index)) ∙ no_cell T (h.site.0 == q.site))

push_there : (T : Table Ref) (h : PlainHeap) (r : world.Ref) (p : PlainPlaced) → IsNext h r p → heap_of T (push_in h p) r ≡ Some (seen_placed T p)
push_there T h r p n = ap (λ i. with_place T h r (slice_get (h.cells ++ p ∷ []) i)) n.index ∙ ap (with_place T h r) (push_same h.cells p) ∙ own_name T h r p n.site n.kind

push_reads : (T : Table Ref) (h : PlainHeap) (r : world.Ref) (p : PlainPlaced) → IsNext h r p → (g : world.Heap) → ((q : world.Ref) → g q ≡ heap_of T h q) → (q : world.Ref) → ((q ≡ r) ⊎ (q ≡ r → ⊥)) → with_ref g r (Some (seen_placed T p)) q ≡ heap_of T (push_in h p) q
push_reads T h r p n g reads q (inl e) = ap (with_ref g r (Some (seen_placed T p))) e ∙ with_ref_same g r (Some (seen_placed T p)) ∙ sym (push_there T h r p n) ∙ ap (heap_of T (push_in h p)) (sym e)
push_reads T h r p n g reads q (inr ne) = with_ref_other g r (Some (seen_placed T p)) q ne ∙ reads q ∙ sym (push_elsewhere T h r p n q ne (same_or q.index r.index))

push_complete : (T : Table Ref) (h : PlainHeap) (p : PlainPlaced) → CompleteCell T p.cell → ((m : ℕ) (x : PlainPlaced) → slice_get h.cells m ≡ Some x → CompleteCell T x.cell)
    → (m : ℕ) (x : PlainPlaced) → slice_get (h.cells ++ p ∷ []) m ≡ Some x → ((m ≡ length h.cells) ⊎ (m ≡ length h.cells → ⊥)) → CompleteCell T x.cell
push_complete T h p c old m x e (inl same) =
    let at : Some p ≡ Some x = sym (ap (slice_get (h.cells ++ p ∷ [])) same ∙ push_same h.cells p) ∙ e in
    let is : p ≡ x = cc at in
    subst (λ (z : PlainPlaced). CompleteCell T z.cell) is c
push_complete T h p c old m x e (inr other) = old m x (sym (push_other h.cells p m other) ∙ e)

pub map_length : {A B : Type 0} → (f : A → B) (xs : List A) → length (map f xs) ≡ length xs
map_length f [] = refl
map_length f (x ∷ xs) = ap suc (map_length f xs)

next_is : (h : Heap) (cell : PlainCell Ref) (born : ℕ) → IsNext (plain_heap h) (seen (next_ref h cell)) (placed_with cell born)
next_is h cell born = record { site = refl; index = sym (map_length plain_placed h.cells); kind = refl }

-- the cells behind a new one, under whose reference nothing was
pub made_reads : (T : Table Ref) (h : Heap) (cell : PlainCell Ref) (born : ℕ) → CompleteCell T cell → (g : world.Heap) → HeapIs T (plain_heap h) g
    → (g (seen (next_ref h cell)) ≡ None) × HeapIs T (one_more h cell born) (with_ref g (seen (next_ref h cell)) (Some (record { born = born; cell = seen_cell T cell })))
made_reads T h cell born c g i =
    let n : IsNext (plain_heap h) (seen (next_ref h cell)) (placed_with cell born) = next_is h cell born in (
      i.reads (seen (next_ref h cell)) ∙ next_none T (plain_heap h) (seen (next_ref h cell)) (placed_with cell born) n,
      record {
        reads = λ q. push_reads T (plain_heap h) (seen (next_ref h cell)) (placed_with cell born) n g i.reads q (ref_or q (seen (next_ref h cell)));
        complete = λ m x e. push_complete T (plain_heap h) (placed_with cell born) c i.complete m x e (same_or m (length (plain_heap h).cells));
        site = i.site;
      },
    )
