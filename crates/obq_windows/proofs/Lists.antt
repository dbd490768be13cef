-- Places in lists.
use Rattle.std.specs.Prelude.{List, None, Option, Some, [], drop, length, refl, slice_get, suc, take, zero, ℕ, ◌<◌, ◌∷◌, ◌≡◌}
use Rattle.std.proofs.Common.{ap, arith, sym}

empty_not : {A : Type 0} → (a : A) (x : List A) → [] ≡ a ∷ x → ⊥
empty_not a x e = zero_suc (length x) (ap length e) where
  zero_suc : (m : ℕ) → 0 ≡ suc m → ⊥
  zero_suc m h = omega (arith, h)

pub item_here : {A : Type 0} → (l : List A) (at : ℕ) (a : A) (x : List A) → drop at l ≡ a ∷ x → slice_get l at ≡ Some a
item_here [] zero a x e = absurd (empty_not a x e)
item_here [] (suc at) a x e = absurd (empty_not a x e)
item_here {A} (b ∷ l) zero a x e = ap first e where
  first : List A → Option A
  first [] = None
  first (c ∷ l) = Some c
item_here (b ∷ l) (suc at) a x e = item_here l at a x e

pub behind_here : {A : Type 0} → (l : List A) (at : ℕ) (a : A) (x : List A) → drop at l ≡ a ∷ x → drop (suc at) l ≡ x
behind_here [] zero a x e = absurd (empty_not a x e)
behind_here [] (suc at) a x e = absurd (empty_not a x e)
behind_here {A} (b ∷ l) zero a x e = ap behind e where
  behind : List A → List A
  behind [] = []
  behind (c ∷ l) = l
behind_here (b ∷ l) (suc at) a x e = behind_here l at a x e

pub past_end : {A : Type 0} → (l : List A) (at : ℕ) → drop at l ≡ [] → slice_get l at ≡ None
past_end [] zero e = refl
past_end [] (suc at) e = refl
past_end (b ∷ l) zero e = absurd (empty_not b l (sym e))
past_end (b ∷ l) (suc at) e = past_end l at e

pub take_get : {A : Type 0} → (b : ℕ) (l : List A) (j : ℕ) → j < b → slice_get (take b l) j ≡ slice_get l j
take_get zero l j h = absurd (below_zero j h) where
  below_zero : (j : ℕ) → j < 0 → ⊥
  below_zero j h = omega (arith, h)
take_get (suc b) [] j h = refl
take_get (suc b) (x ∷ l) zero h = refl
take_get (suc b) (x ∷ l) (suc j) h = take_get b l j (omega (arith, h))
