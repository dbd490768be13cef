-- Trails that are kept with the innermost site last.
use Rattle.std.proofs.Common.{List, Some, [], ap, refl, reverse, slice_get, sym, ℕ, ◌++◌, ◌∙◌, ◌∷◌, ◌≡◌}
use Rattle.std.proofs.lemmas.List.{reverse-append}
use Rattle.std.proofs.lemmas.Grind.{reverse_onto}
use Rattle.obq_model.specs.Located.{home_of}

-- one site more is the innermost
pub one_entered : (sites : List ℕ) (site : ℕ) → reverse (sites ++ site ∷ []) ≡ site ∷ reverse sites
one_entered sites site = reverse-append sites (site ∷ [])

home_last : (xs : List ℕ) (x : ℕ) → home_of (xs ++ x ∷ []) ≡ x
home_last [] x = refl
home_last (y ∷ []) x = refl
home_last (y ∷ z ∷ zs) x = home_last (z ∷ zs) x

-- the first one is the home
pub home_first : (x : ℕ) (xs : List ℕ) → home_of (reverse (x ∷ xs)) ≡ x
home_first x xs = ap home_of (reverse_onto xs x []) ∙ home_last (reverse xs) x

-- of sites that are there the first one
pub home_at : (sites : List ℕ) (x : ℕ) → slice_get sites 0 ≡ Some x → x ≡ home_of (reverse sites)
home_at [] x e = absurd (cc e)
home_at (y ∷ ys) x e = let f : x ≡ y = cc e in f ∙ sym (home_first y ys)
