-- Laws of the walk over a table.
use Rattle.std.proofs.Common.{◌≡◌, ◌≢◌, ℕ, zero, suc, ◌+◌, ◌<◌, ◌≤◌, Bool, true, false, cond, eqb, List, [], ◌∷◌, ◌++◌, length, Some, None, refl, sym, ap, subst, ◌∙◌, append_assoc, add-one, arith, inl, inr}
use Rattle.std.specs.Prelude.{fold, ◌==◌, slice_get}
use Rattle.std.specs.List.{AllByRecursion}
use Rattle.std.proofs.lemmas.Bool.{cases_lt, eqb-true, eq-eqb, eqb-false}
use Rattle.std.proofs.lemmas.List.{append-nil, length-append}
use Rattle.std.proofs.lemmas.List.Folds.{list_any-append}
use Rattle.obq_wire.specs.declared.order.Begun.{Begun}
use Rattle.obq_wire.specs.declared.values.TableEntry.{TableEntry}
use Rattle.obq_wire.specs.Order.{entry_needs, has_number, is_needed_there, placed}
use Rattle.obq_wire.specs.Walk.{numbers_below, still_needs, IsBegun, done, all_done, HasOther, IsAgreement}

by_cond : {X : Type 0} (P : X → Type 0) (t : Bool) (x y : X) → P x → P y → P (cond t x y)
by_cond P true x y p q = p
by_cond P false x y p q = q

-- ---- what was placed stays

pub record Extends (old new : List ℕ) : Type 0 where
  pub more : List ℕ
  pub is : new ≡ old ++ more

extends_refl : (xs : List ℕ) → Extends xs xs
extends_refl xs = record { more = []; is = sym (append-nil xs) }

extends_then : (xs ys zs : List ℕ) → Extends xs ys → Extends ys zs → Extends xs zs
extends_then xs ys zs p q = record { more = p.more ++ q.more; is = q.is ∙ ap (λ (y : List ℕ). y ++ q.more) p.is ∙ append_assoc xs p.more q.more }

extends_by : (xs more : List ℕ) → Extends xs (xs ++ more)
extends_by xs more = record { more = more; is = refl }

fold_extends : (f : List ℕ → ℕ → List ℕ) → ((xs : List ℕ) (i : ℕ) → Extends xs (f xs i)) → (is xs : List ℕ) → Extends xs (fold f xs is)
fold_extends f each [] xs = extends_refl xs
fold_extends f each (i ∷ is) xs = extends_then xs (f xs i) (fold f (f xs i) is) (each xs i) (fold_extends f each is (f xs i))

module _ (table : List TableEntry) where
  placed_extends : (bound : ℕ) (xs : List ℕ) (i : ℕ) → Extends xs (placed table bound xs i)
  unfolding placed
  placed_extends zero xs i = extends_refl xs
  placed_extends (suc bound) xs i =
      let behind = fold (placed table bound) xs (entry_needs table i) in
      by_cond (Extends xs) (i == bound) (cond (has_number xs i) xs (behind ++ i ∷ [])) (placed table bound xs i)
      (by_cond (Extends xs) (has_number xs i) xs (behind ++ i ∷ []) (extends_refl xs)
      (extends_then xs behind (behind ++ i ∷ []) (fold_extends (placed table bound) (placed_extends bound) (entry_needs table i) xs) (extends_by behind (i ∷ []))))
      (placed_extends bound xs i)

  pub all_placed_extends : (bound : ℕ) (is xs : List ℕ) → Extends xs (fold (placed table bound) xs is)
  all_placed_extends bound = fold_extends (placed table bound) (placed_extends bound)

  done_extends : (xs : List ℕ) (b : Begun) → Extends xs (done table xs b)
  done_extends xs b =
      let behind = fold (placed table b.index) xs (still_needs table b) in
      extends_then xs behind (behind ++ b.index ∷ []) (all_placed_extends b.index (still_needs table b) xs) (extends_by behind (b.index ∷ []))

  all_done_extends : (bs : List Begun) (xs : List ℕ) → Extends xs (all_done table bs xs)
  all_done_extends [] xs = extends_refl xs
  all_done_extends (b ∷ bs) xs = extends_then xs (all_done table bs xs) (done table (all_done table bs xs) b) (all_done_extends bs xs) (done_extends (all_done table bs xs) b)

  pub all_done_push : (bs : List Begun) (b : Begun) (xs : List ℕ) → all_done table (bs ++ b ∷ []) xs ≡ all_done table bs (done table xs b)
  all_done_push [] b xs = refl
  all_done_push (a ∷ bs) b xs = ap (λ (ys : List ℕ). done table ys a) (all_done_push bs b xs)

  -- ---- an entry is placed behind what it needs, at any bound above it

  pub placed_at : (bound : ℕ) (xs : List ℕ) (i : ℕ) → i < bound
      → placed table bound xs i ≡ cond (has_number xs i) xs (fold (placed table i) xs (entry_needs table i) ++ i ∷ [])
  unfolding placed
  placed_at zero xs i lt = absurd (omega (arith, lt))
  placed_at (suc bound) xs i lt = at_bound (λ below. placed_at bound xs i below) (eqb i bound) refl
    where
      at_bound : (i < bound → placed table bound xs i ≡ cond (has_number xs i) xs (fold (placed table i) xs (entry_needs table i) ++ i ∷ [])) → (t : Bool) → eqb i bound ≡ t
          → cond (eqb i bound) (cond (has_number xs i) xs (fold (placed table bound) xs (entry_needs table i) ++ i ∷ [])) (placed table bound xs i)
          ≡ cond (has_number xs i) xs (fold (placed table i) xs (entry_needs table i) ++ i ∷ [])
      at_bound lower true e = rw e (ap (λ (b : ℕ). cond (has_number xs i) xs (fold (placed table b) xs (entry_needs table i) ++ i ∷ [])) (sym (eqb-true i bound e)))
      at_bound lower false e = rw e (lower (omega (arith, lt, eqb-false i bound e)))

pub eqb_apart : (m n : ℕ) → m ≢ n → eqb m n ≡ false
eqb_apart m n ne = by (eqb m n) refl
  where
    by : (t : Bool) → eqb m n ≡ t → eqb m n ≡ false
    by true e = absurd (ne (eqb-true m n e))
    by false e = e

pub lacks_from : (n j : ℕ) → n ≤ j → has_number (numbers_below n) j ≡ false
lacks_from zero j le = refl
lacks_from (suc n) j le =
    list_any-append (λ m. m == j) (numbers_below n) (n ∷ []) ∙ rw (lacks_from n j (omega (arith, le)), eqb_apart n j (omega (arith, le))) refl

pub has_below : (n j : ℕ) → j < n → has_number (numbers_below n) j ≡ true
has_below zero j lt = absurd (omega (arith, lt))
has_below (suc n) j lt =
    list_any-append (λ m. m == j) (numbers_below n) (n ∷ []) ∙
    elim (cases_lt j n) [
      | inl below ↦ rw (has_below n j below) refl
      | inr le ↦ rw (lacks_from n j le, eq-eqb n j (omega (arith, lt, le))) refl
    ]

pub all_push : {X : Type 0} (P : X → Type 0) (xs : List X) (x : X) → AllByRecursion P xs → P x → AllByRecursion P (xs ++ x ∷ [])
all_push P [] x all p = (p, tt)
all_push P (y ∷ xs) x all p = (all.0, all_push P xs x all.1 p)

-- ---- another index than the one that is due

pub other_here : (n i : ℕ) (xs : List ℕ) → i ≢ n → Extends (numbers_below n ++ i ∷ []) xs → HasOther n xs
other_here n i xs ne e = (i, e.more, e.is ∙ append_assoc (numbers_below n) (i ∷ []) e.more, ne)

pub other_stays : (n : ℕ) (xs ys : List ℕ) → HasOther n xs → Extends xs ys → HasOther n ys
other_stays n xs ys h e =
    (h.0, h.1 ++ e.more, e.is ∙ ap (λ (z : List ℕ). z ++ e.more) h.2 ∙ append_assoc (numbers_below n) (h.0 ∷ h.1) e.more, h.3)

-- ---- the steps

module _ (table : List TableEntry) (before : List Begun) (b : Begun) (count : ℕ) where
  pub step_other_index : still_needs table b ≡ [] → b.index ≢ count → HasOther count (all_done table (before ++ b ∷ []) (numbers_below count))
  step_other_index e ne =
      let last : done table (numbers_below count) b ≡ numbers_below count ++ b.index ∷ [] = rw e refl in
      let here = all_done_extends table before (numbers_below count ++ b.index ∷ []) in
      subst (λ (xs : List ℕ). HasOther count xs) (sym (all_done_push table before b (numbers_below count) ∙ ap (all_done table before) last))
      (other_here count b.index (all_done table before (numbers_below count ++ b.index ∷ [])) ne here)

  pub step_placed : still_needs table b ≡ [] → b.index ≡ count → all_done table before (numbers_below (count + 1)) ≡ all_done table (before ++ b ∷ []) (numbers_below count)
  step_placed e same =
      let last : done table (numbers_below count) b ≡ numbers_below (suc count) = rw (e, same) refl in
      rw add-one (sym (all_done_push table before b (numbers_below count) ∙ ap (all_done table before) last))

  pub step_over : (after : Begun) → after.index ≡ b.index → still_needs table after ≡ still_needs table b
      → all_done table (before ++ after ∷ []) (numbers_below count) ≡ all_done table (before ++ b ∷ []) (numbers_below count)
  step_over after same e =
      all_done_push table before after (numbers_below count) ∙ ap (all_done table before) (done_alike after same e) ∙ sym (all_done_push table before b (numbers_below count))
    where
      done_alike : (after : Begun) → after.index ≡ b.index → still_needs table after ≡ still_needs table b → done table (numbers_below count) after ≡ done table (numbers_below count) b
      done_alike after same e =
          ap (λ (is : List ℕ). fold (placed table after.index) (numbers_below count) is ++ after.index ∷ []) e
          ∙ ap (λ (i : ℕ). fold (placed table i) (numbers_below count) (still_needs table b) ++ i ∷ []) same

  -- what the entry comes to, once the index that it needs next is placed
  done_next : (after : Begun) (i : ℕ) → after.index ≡ b.index → still_needs table b ≡ i ∷ still_needs table after
      → done table (numbers_below count) b ≡ done table (placed table b.index (numbers_below count) i) after
  done_next after i same e =
      ap (λ (is : List ℕ). fold (placed table b.index) (numbers_below count) is ++ b.index ∷ []) e
      ∙ ap (λ (j : ℕ). fold (placed table j) (placed table b.index (numbers_below count) i) (still_needs table after) ++ j ∷ []) (sym same)

  pub step_had : (after : Begun) (i : ℕ) → after.index ≡ b.index → still_needs table b ≡ i ∷ still_needs table after → i < b.index → i < count
      → all_done table (before ++ after ∷ []) (numbers_below count) ≡ all_done table (before ++ b ∷ []) (numbers_below count)
  step_had after i same e below had =
      let stays : placed table b.index (numbers_below count) i ≡ numbers_below count = placed_at table b.index (numbers_below count) i below ∙ rw (has_below count i had) refl in
      all_done_push table before after (numbers_below count)
      ∙ ap (all_done table before) (sym (done_next after i same e ∙ ap (λ (xs : List ℕ). done table xs after) stays))
      ∙ sym (all_done_push table before b (numbers_below count))

  pub step_into : (after : Begun) (i : ℕ) → after.index ≡ b.index → still_needs table b ≡ i ∷ still_needs table after → i < b.index → count ≤ i
      → all_done table ((before ++ after ∷ []) ++ record { index = i; next = 0 } ∷ []) (numbers_below count) ≡ all_done table (before ++ b ∷ []) (numbers_below count)
  step_into after i same e below lacks =
      let new : Begun = record { index = i; next = 0 } in
      let goes : placed table b.index (numbers_below count) i ≡ done table (numbers_below count) new = placed_at table b.index (numbers_below count) i below ∙ rw (lacks_from count i lacks) refl in
      all_done_push table (before ++ after ∷ []) new (numbers_below count)
      ∙ all_done_push table before after (done table (numbers_below count) new)
      ∙ ap (all_done table before) (sym (done_next after i same e ∙ ap (λ (xs : List ℕ). done table xs after) goes))
      ∙ sym (all_done_push table before b (numbers_below count))

  pub begun_over : (after : Begun) → after.index ≡ b.index → still_needs table after ≡ still_needs table b → IsBegun table b → IsBegun table after
  begun_over after same e fits =
      subst (λ (is : List ℕ). AllByRecursion (λ j. j < after.index) is) (sym e) (subst (λ (k : ℕ). AllByRecursion (λ j. j < k) (still_needs table b)) (sym same) fits)

  pub begun_next : (after : Begun) (i : ℕ) → after.index ≡ b.index → still_needs table b ≡ i ∷ still_needs table after → IsBegun table b → (i < b.index) × IsBegun table after
  begun_next after i same e fits =
      let both : AllByRecursion (λ j. j < b.index) (i ∷ still_needs table after) = subst (λ (is : List ℕ). AllByRecursion (λ j. j < b.index) is) e fits in
      (both.0, subst (λ (k : ℕ). AllByRecursion (λ j. j < k) (still_needs table after)) (sym same) both.1)

-- ---- the walk of one index that is needed

module _ (table : List TableEntry) (count root : ℕ) (within : root < length table) where
  pub root_had : root < count → placed table (length table) (numbers_below count) root ≡ numbers_below count
  root_had had = placed_at table (length table) (numbers_below count) root within ∙ rw (has_below count root had) refl

  pub root_new : count ≤ root → all_done table (record { index = root; next = 0 } ∷ []) (numbers_below count) ≡ placed table (length table) (numbers_below count) root
  root_new lacks = sym (placed_at table (length table) (numbers_below count) root within ∙ rw (lacks_from count root lacks) refl)

pub all_last : {X : Type 0} (P : X → Type 0) (xs : List X) (x : X) → AllByRecursion P (xs ++ x ∷ []) → P x
all_last P [] x all = all.0
all_last P (y ∷ xs) x all = all_last P xs x all.1

pub all_front : {X : Type 0} (P : X → Type 0) (xs : List X) (x : X) → AllByRecursion P (xs ++ x ∷ []) → AllByRecursion P xs
all_front P [] x all = tt
all_front P (y ∷ xs) x all = (all.0, all_front P xs x all.1)

-- ---- where the indices are those that are due

length_below : (n : ℕ) → length (numbers_below n) ≡ n
length_below zero = refl
length_below (suc n) = omega (arith, length_below n, length-append (numbers_below n) (n ∷ []))

get_behind : (xs : List ℕ) (x : ℕ) (more : List ℕ) → slice_get (xs ++ x ∷ more) (length xs) ≡ Some x
get_behind [] x more = refl
get_behind (y ∷ xs) x more = get_behind xs x more

get_past : (xs : List ℕ) → slice_get xs (length xs) ≡ None
get_past [] = refl
get_past (x ∷ xs) = get_past xs

get_there : (n i : ℕ) (more : List ℕ) → slice_get (numbers_below n ++ i ∷ more) n ≡ Some i
get_there n i more = subst (λ (k : ℕ). slice_get (numbers_below n ++ i ∷ more) k ≡ Some i) (length_below n) (get_behind (numbers_below n) i more)

get_below : (n k : ℕ) (more : List ℕ) → k < n → slice_get (numbers_below n ++ more) k ≡ Some k
get_below zero k more lt = absurd (omega (arith, lt))
get_below (suc n) k more lt =
    ap (λ (xs : List ℕ). slice_get xs k) (append_assoc (numbers_below n) (n ∷ []) more) ∙
    elim (cases_lt k n) [
      | inl below ↦ get_below n k (n ∷ more) below
      | inr le ↦ let same : n ≡ k = omega (arith, lt, le) in subst (λ (m : ℕ). slice_get (numbers_below n ++ n ∷ more) m ≡ Some m) same (get_there n n more)
    ]

pub agrees_other : (n : ℕ) (xs : List ℕ) → HasOther n xs → IsAgreement xs n
agrees_other n xs h = record {
  below = λ k lt. ap (λ (ys : List ℕ). is_needed_there ys k) h.2 ∙ rw (get_below n k (h.0 ∷ h.1) lt) (eq-eqb k k refl);
  there = ap (λ (ys : List ℕ). is_needed_there ys n) h.2 ∙ rw (get_there n h.0 h.1) (eqb_apart h.0 n h.3);
}

pub agrees_all : (n : ℕ) (xs : List ℕ) → xs ≡ numbers_below n → IsAgreement xs n
agrees_all n xs e = record {
  below = λ k lt. ap (λ (ys : List ℕ). is_needed_there ys k) (e ∙ sym (append-nil (numbers_below n))) ∙ rw (get_below n k [] lt) (eq-eqb k k refl);
  there = ap (λ (ys : List ℕ). is_needed_there ys n) e ∙ rw (subst (λ (k : ℕ). slice_get (numbers_below n) k ≡ None) (length_below n) (get_past (numbers_below n))) refl;
}

pub agrees_later : (table : List TableEntry) (bound n root : ℕ) (xs rest whole : List ℕ) → HasOther n (placed table bound xs root) → fold (placed table bound) xs (root ∷ rest) ≡ whole → IsAgreement whole n
agrees_later table bound n root xs rest whole h e =
    subst (λ (ys : List ℕ). IsAgreement ys n) e
    (agrees_other n (fold (placed table bound) (placed table bound xs root) rest) (other_stays n (placed table bound xs root) (fold (placed table bound) (placed table bound xs root) rest) h (all_placed_extends table bound rest (placed table bound xs root))))
