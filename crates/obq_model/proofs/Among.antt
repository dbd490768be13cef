-- Names among names.
use Rattle.std.specs.Prelude.{Bool, List, [], bytes_eq, false, refl, true, ◌++◌, ◌⊎◌, ◌∷◌, ◌≡◌, ◌||◌}
use Rattle.std.proofs.lemmas.Slice.Eq.{bytes_eq-Decides}
use Rattle.std.proofs.Common.{inl, inr, ap, sym, ◌∙◌, true≢false}
use Rattle.obq_model.specs.Terms.{Bytes}
use Rattle.obq_model.specs.Put.{among}

pub bytes_sym : (x y : Bytes) → bytes_eq x y ≡ bytes_eq y x
bytes_sym x y = by_case (bytes_eq x y) (bytes_eq y x) refl refl where
  by_case : (b c : Bool) → bytes_eq x y ≡ b → bytes_eq y x ≡ c → b ≡ c
  by_case true true e f = refl
  by_case false false e f = refl
  by_case true false e f = absurd (true≢false (sym ((bytes_eq-Decides y x).1 (sym ((bytes_eq-Decides x y).0 e))) ∙ f))
  by_case false true e f = absurd (true≢false (sym ((bytes_eq-Decides x y).1 (sym ((bytes_eq-Decides y x).0 f))) ∙ e))

pub either : (a b : Bool) → (a || b) ≡ true → (a ≡ true) ⊎ (b ≡ true)
either true b h = inl refl
either false b h = inr h

pub left_of : (a b : Bool) → a ≡ true → (a || b) ≡ true
left_of true b h = refl
left_of false b h = absurd (true≢false (sym h))

pub right_of : (a b : Bool) → b ≡ true → (a || b) ≡ true
right_of true b h = refl
right_of false b h = h

pub among_append : (x : Bytes) (xs ys : List Bytes) → among x (xs ++ ys) ≡ (among x xs || among x ys)
among_append x [] ys = refl
among_append x (y ∷ xs) ys = ap (λ b. bytes_eq x y || b) (among_append x xs ys) ∙ or_assoc (bytes_eq x y) (among x xs) (among x ys) where
  or_assoc : (a b c : Bool) → (a || (b || c)) ≡ ((a || b) || c)
  or_assoc true b c = refl
  or_assoc false b c = refl
