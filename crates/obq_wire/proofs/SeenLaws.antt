-- Laws of the numbers that were seen, and of the first entry that is misplaced.
use Rattle.std.proofs.Common.{◌≡◌, ℕ, ◌<◌, Bool, true, false, cond, ltb, eqb, List, [], ◌∷◌, length, take, drop, Some, refl, sym, ap, ◌∙◌, arith}
use Rattle.std.specs.Prelude.{◌||◌, ◌&&◌}
use Rattle.std.specs.List.{list_any}
use Rattle.std.specs.Ordering.{nat_cmp, ordering_then, is_eq}
use Rattle.std.specs.declared.cmp.Ordering.{Ordering}
use Rattle.std.specs.declared.cmp.Ordering.TheVariants.{Less, Equal, Greater}
use Rattle.std.proofs.lemmas.Bool.{ltb-true}
use Rattle.std.proofs.lemmas.List.{length-take, length-drop}
use Rattle.obq_base.specs.declared.values.GroupNo.{GroupNo}
use Rattle.obq_wire.specs.declared.values.TableEntry.{TableEntry}
use Rattle.obq_wire.specs.Order.{is_needed_there, misplaced_from, same_number}
use Rattle.obq_wire.specs.Seen.{pair_cmp}
use Rattle.obq_wire.proofs.WalkLaws.{eqb_apart}

then_equal : (o p : Ordering) → is_eq (ordering_then o p) ≡ (is_eq o && is_eq p)
then_equal Less p = refl
then_equal Equal p = refl
then_equal Greater p = refl

nat_equal : (m n : ℕ) → is_eq (nat_cmp m n) ≡ eqb m n
nat_equal m n = by_order (ltb m n) refl
  where
    by_test : (t : Bool) → is_eq (cond t Equal Greater) ≡ t
    by_test true = refl
    by_test false = refl

    by_order : (t : Bool) → ltb m n ≡ t → is_eq (cond (ltb m n) Less (cond (eqb m n) Equal Greater)) ≡ eqb m n
    by_order true e = rw e (sym (eqb_apart m n (let lt : m < n = ltb-true m n e in omega (arith, lt))))
    by_order false e = rw e (by_test (eqb m n))

or_else : (t u : Bool) → cond t true u ≡ (t || u)
or_else true u = refl
or_else false u = refl

pub seen_more : (g h : GroupNo) (t : Bool) → cond (is_eq (pair_cmp (g.thread, g.n) (h.thread, h.n))) true t ≡ (same_number g h || t)
seen_more g h t =
    or_else (is_eq (pair_cmp (g.thread, g.n) (h.thread, h.n))) t
    ∙ ap (λ (u : Bool). u || t) (then_equal (nat_cmp g.thread h.thread) (nat_cmp g.n h.n) ∙ rw (nat_equal g.thread h.thread, nat_equal g.n h.n) refl)

or_true : (t : Bool) → (t || true) ≡ true
or_true true = refl
or_true false = refl

pub misplaced_here : (needed : List ℕ) (table : List TableEntry) (k : ℕ) → k < length table → is_needed_there needed k ≡ false → misplaced_from needed (take k table) (drop k table) ≡ Some k
misplaced_here needed table k lt lacks = by (drop k table) refl
  where
    len : length (take k table) ≡ k
    len = omega (arith, length-take k table, lt)

    by : (es : List TableEntry) → drop k table ≡ es → misplaced_from needed (take k table) es ≡ Some k
    by [] e = absurd (omega (arith, length-drop k table, ap length e, lt))
    by (e ∷ es) is = rw (len, lacks, or_true (list_any (λ d. same_number d.number e.number) (take k table))) refl
