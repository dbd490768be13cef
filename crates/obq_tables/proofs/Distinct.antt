-- That no key stands twice, by computing.
use Rattle.std.proofs.Common.{◌≡◌, Bool, true, false, List, [], ◌∷◌, ◌&&◌, not, refl}
use Rattle.std.specs.List.{AllByRecursion, IsDistinct}

-- none of the keys is equal to this one
abbrev pub is_apart : {K : Type 0} → (K → K → Bool) → K → List K → Bool
is_apart e x [] = true
is_apart e x (y ∷ ys) = not (e x y) && is_apart e x ys

abbrev pub are_distinct : {K : Type 0} → (K → K → Bool) → List K → Bool
are_distinct e [] = true
are_distinct e (x ∷ xs) = is_apart e x xs && are_distinct e xs

of_both : (a b : Bool) → (a && b) ≡ true → (a ≡ true) × (b ≡ true)
of_both true true h = (refl, refl)
of_both true false h = absurd cc
of_both false b h = absurd cc

of_not : (a : Bool) → not a ≡ true → a ≡ false
of_not true h = absurd cc
of_not false h = refl

apart : {K : Type 0} (e : K → K → Bool) (x : K) (ys : List K) → is_apart e x ys ≡ true → AllByRecursion (λ y. e x y ≡ false) ys
apart e x [] h = tt
apart e x (y ∷ ys) h = let both = of_both (not (e x y)) (is_apart e x ys) h in (of_not (e x y) both.0, apart e x ys both.1)

pub distinct : {K : Type 0} (e : K → K → Bool) (xs : List K) → are_distinct e xs ≡ true → IsDistinct e xs
unfolding IsDistinct
distinct e [] h = tt
distinct e (x ∷ xs) h = let both = of_both (is_apart e x xs) (are_distinct e xs) h in (apart e x xs both.0, distinct e xs both.1)
