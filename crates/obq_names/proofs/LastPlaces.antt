-- Where the last binder of a name stands, among those outside of a procedure and its own.
use Rattle.std.proofs.Common.{◌≡◌, ◌∙◌, inl, inr, ℕ, suc, ◌+◌, ◌<◌, ◌≤◌, Bool, true, false, not, ◌&&◌, cond, List, [], ◌∷◌, ◌++◌, Option, None, Some, refl, ap, sym, length, bytes_eq, nat_lt, arith, rules}
use Rattle.std.specs.List.{filter}
use Rattle.std.proofs.lemmas.Bool.{cases_Bool, true≢false}
use Rattle.obq_model.specs.Put.{among}
use Rattle.obq_model.specs.Scopes.{last_place, last_place_from}
use Rattle.obq_names.specs.Union.{union, with_name}
use Rattle.obq_names.specs.Walked.{with_all_outer, with_outer}
use Rattle.obq_names.proofs.Unions.{Names}

last-append : (k : ℕ) (found : Option ℕ) (x : List ℕ) (xs ys : Names) → last_place_from k found x (xs ++ ys) ≡ last_place_from (k + length xs) (last_place_from k found x xs) x ys
last-append k found x [] ys = let e : k ≡ k + length {A = List ℕ} [] = omega arith in ap (λ (n : ℕ). last_place_from n found x ys) e
last-append k found x (y ∷ xs) ys =
    let e : suc k + length xs ≡ k + length (y ∷ xs) = omega arith in
    let f : Option ℕ = cond (bytes_eq x y) (Some k) found in
    last-append (suc k) f x xs ys ∙ ap (λ (n : ℕ). last_place_from n (last_place_from (suc k) f x xs) x ys) e

missing : (k : ℕ) (found : Option ℕ) (x : List ℕ) (xs : Names) → among x xs ≡ false → last_place_from k found x xs ≡ found
missing k found x [] h = refl
missing k found x (y ∷ xs) h = elim (cases_Bool (bytes_eq x y)) [
  | inl e ↦ let g : true ≡ false = rw e at h in absurd (true≢false g)
  | inr e ↦ rw e (missing (suc k) found x xs (rw e at h))
]

record Place (low high : ℕ) (found : Option ℕ) : Type 0 where
  place : ℕ
  is : found ≡ Some place
  least : low ≤ place
  most : place < high

present : (k : ℕ) (found : Option ℕ) (x : List ℕ) (xs : Names) → among x xs ≡ true → Place k (k + length xs) (last_place_from k found x xs)
present k found x [] h = absurd (true≢false (sym h))
present k found x (y ∷ xs) h = elim (cases_Bool (among x xs)) [
  | inl e ↦
      let p : Place (suc k) (suc k + length xs) (last_place_from (suc k) (cond (bytes_eq x y) (Some k) found) x xs) = present (suc k) (cond (bytes_eq x y) (Some k) found) x xs e in
      record { place = p.place; is = p.is; least = omega (arith, p.least); most = omega (arith, p.most) }
  | inr e ↦ elim (cases_Bool (bytes_eq x y)) [
    | inl g ↦ record { place = k; is = missing (suc k) (cond (bytes_eq x y) (Some k) found) x xs e ∙ rw g refl; least = omega arith; most = omega arith }
    | inr g ↦ let c : false ≡ true = rw (g, e) at h in absurd (true≢false (sym c))
  ]
]

not_less : (k n : ℕ) → n ≤ k → nat_lt k n ≡ false
not_less k n h = search (rules, h)

less : (k n : ℕ) → k < n → nat_lt k n ≡ true
less k n h = search (rules, h)

-- its own binders come first
pub own_place : (x : List ℕ) (outer own : Names) → among x own ≡ true → (k : ℕ) × (last_place x (outer ++ own) ≡ Some k) × (nat_lt k (length outer) ≡ false)
own_place x outer own h =
    let p : Place (0 + length outer) (0 + length outer + length own) (last_place_from (0 + length outer) (last_place_from 0 None x outer) x own) = present (0 + length outer) (last_place_from 0 None x outer) x own h in
    (p.place, last-append 0 None x outer own ∙ p.is, not_less p.place (length outer) (omega (arith, p.least)))

pub outer_place : (x : List ℕ) (outer own : Names) → among x own ≡ false → among x outer ≡ true → (k : ℕ) × (last_place x (outer ++ own) ≡ Some k) × (nat_lt k (length outer) ≡ true)
outer_place x outer own h g =
    let p : Place 0 (0 + length outer) (last_place_from 0 None x outer) = present 0 None x outer g in
    (p.place, last-append 0 None x outer own ∙ missing (0 + length outer) (last_place_from 0 None x outer) x own h ∙ p.is, less p.place (length outer) (omega (arith, p.most)))

pub no_place : (x : List ℕ) (outer own : Names) → among x own ≡ false → among x outer ≡ false → last_place x (outer ++ own) ≡ None
no_place x outer own h g = last-append 0 None x outer own ∙ missing (0 + length outer) (last_place_from 0 None x outer) x own h ∙ missing 0 None x outer g

-- outside of a procedure a name is bound, and not by the procedure itself
abbrev pub is_outer : Names → Names → List ℕ → Bool
is_outer outer own x = not (among x own) && among x outer

one_outer : (x : List ℕ) (outer own names : Names) → with_outer (length outer) (last_place x (outer ++ own)) x names ≡ cond (is_outer outer own x) (with_name x names) names
one_outer x outer own names = elim (cases_Bool (among x own)) [
  | inl e ↦ let p : (k : ℕ) × (last_place x (outer ++ own) ≡ Some k) × (nat_lt k (length outer) ≡ false) = own_place x outer own e in rw (p.1, e) (rw p.2 refl)
  | inr e ↦ elim (cases_Bool (among x outer)) [
    | inl g ↦ let p : (k : ℕ) × (last_place x (outer ++ own) ≡ Some k) × (nat_lt k (length outer) ≡ true) = outer_place x outer own e g in rw (p.1, e, g) (rw p.2 refl)
    | inr g ↦ rw (no_place x outer own e g, e, g) refl
  ]
]

pub all_outer : (outer own names xs : Names) → with_all_outer (outer ++ own) (length outer) names xs ≡ union names (filter (is_outer outer own) xs)
all_outer outer own names [] = refl
all_outer outer own names (x ∷ xs) = elim (cases_Bool (is_outer outer own x)) [
  | inl e ↦ all_outer outer own (with_outer (length outer) (last_place x (outer ++ own)) x names) xs ∙ rw (one_outer x outer own names, e) refl
  | inr e ↦ all_outer outer own (with_outer (length outer) (last_place x (outer ++ own)) x names) xs ∙ rw (one_outer x outer own names, e) refl
]
