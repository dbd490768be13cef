-- The lists that are left behind those that have been passed.
use Rattle.std.proofs.Common.{◌≡◌, ℕ, zero, suc, List, [], ◌∷◌, None, Some, refl, drop, slice_get}
use Rattle.obq_scope.specs.Coded.{behind, first_of}

pub first_none : (lists : List (List (List ℕ))) (k : ℕ) → slice_get lists k ≡ None → first_of (drop k lists) ≡ []
first_none [] zero e = refl
first_none [] (suc k) e = refl
first_none (x ∷ lists) zero e = cc e
first_none (x ∷ lists) (suc k) e = first_none lists k e

pub first_some : (lists : List (List (List ℕ))) (k : ℕ) (names : List (List ℕ)) → slice_get lists k ≡ Some names → first_of (drop k lists) ≡ names
first_some [] zero names e = cc e
first_some [] (suc k) names e = cc e
first_some (x ∷ lists) zero names e = cc e
first_some (x ∷ lists) (suc k) names e = first_some lists k names e

pub behind_passed : (lists : List (List (List ℕ))) (k : ℕ) → drop (suc k) lists ≡ behind (drop k lists)
behind_passed [] zero = refl
behind_passed [] (suc k) = refl
behind_passed (x ∷ lists) zero = refl
behind_passed (x ∷ lists) (suc k) = behind_passed lists k
