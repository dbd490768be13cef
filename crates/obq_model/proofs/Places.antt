-- The last place of a name among names.
use Rattle.std.specs.Prelude.{Bool, List, None, Option, Some, [], bytes_eq, false, if◌then◌else◌, is_some, length, refl, suc, true, ℕ, ◌+◌, ◌<◌, ◌∷◌, ◌≡◌, ◌||◌}
use Rattle.std.proofs.Common.{ap, sym, ◌∙◌, arith, true≢false}
use Rattle.obq_model.specs.Terms.{Bytes}
use Rattle.obq_model.specs.Put.{among}
use Rattle.obq_model.specs.Scopes.{last_place_from}
use Rattle.obq_model.proofs.Options.{some_same}

-- the first of two, where there is one
abbrev pub or_else : {A : Type 0} → Option A → Option A → Option A
or_else (Some x) o = Some x
or_else None o = o

pub place_found : (k : ℕ) (found : Option ℕ) (x : Bytes) (ys : List Bytes) → last_place_from k found x ys ≡ or_else (last_place_from k None x ys) found
place_found k found x [] = refl
place_found k found x (y ∷ ys) =
    place_found (suc k) (if bytes_eq x y then Some k else found) x ys
    ∙ by_case (bytes_eq x y) (last_place_from (suc k) None x ys)
    ∙ ap (λ o. or_else o found) (sym (place_found (suc k) (if bytes_eq x y then Some k else None) x ys)) where
      by_case : (c : Bool) (o : Option ℕ) → or_else o (if c then Some k else found) ≡ or_else (or_else o (if c then Some k else None)) found
      by_case true None = refl
      by_case true (Some n) = refl
      by_case false None = refl
      by_case false (Some n) = refl

-- a name has a place exactly where it is among the names
pub among_place : (i : ℕ) (y : Bytes) (xs : List Bytes) → among y xs ≡ is_some (last_place_from i None y xs)
among_place i y [] = refl
among_place i y (x ∷ xs) =
    ap (λ c. bytes_eq y x || c) (among_place (suc i) y xs) ∙ joined (bytes_eq y x) (last_place_from (suc i) None y xs)
    ∙ ap is_some (sym (place_found (suc i) (if bytes_eq y x then Some i else None) y xs)) where
      joined : (c : Bool) (o : Option ℕ) → (c || is_some o) ≡ is_some (or_else o (if c then Some i else None))
      joined true None = refl
      joined true (Some n) = refl
      joined false None = refl
      joined false (Some n) = refl

pub place_below : (i : ℕ) (y : Bytes) (xs : List Bytes) (k : ℕ) → last_place_from i None y xs ≡ Some k → k < i + length xs
place_below i y [] k e = absurd (true≢false (sym (ap is_some e)))
place_below i y (x ∷ xs) k e = by_case (bytes_eq y x) (last_place_from (suc i) None y xs) refl (sym (place_found (suc i) (if bytes_eq y x then Some i else None) y xs) ∙ e) (place_below (suc i) y xs) where
  further : (n k : ℕ) → k < suc i + n → k < i + suc n
  further n k l = omega (arith, l)

  first : (n k : ℕ) → i ≡ k → k < i + suc n
  first n k q = omega (arith, q)

  by_case : (c : Bool) (o : Option ℕ) → last_place_from (suc i) None y xs ≡ o → or_else (last_place_from (suc i) None y xs) (if c then Some i else None) ≡ Some k
      → ((k : ℕ) → last_place_from (suc i) None y xs ≡ Some k → k < suc i + length xs) → k < i + suc (length xs)
  by_case c (Some n) q f ih = further (length xs) k (ih k (q ∙ sym (ap (λ (z : Option ℕ). or_else z (if c then Some i else None)) q) ∙ f))
  by_case true None q f ih = first (length xs) k (some_same i k (sym (ap (λ (z : Option ℕ). or_else z (Some i)) q) ∙ f))
  by_case false None q f ih = absurd (true≢false (sym (ap is_some (sym (ap (λ (z : Option ℕ). or_else z None) q) ∙ f))))
