-- The sites from one on, taken one by one.
use Rattle.std.proofs.Common.{List, [], ap, append_assoc, arith, suc, sym, ℕ, ◌+◌, ◌++◌, ◌-◌, ◌<◌, ◌≤◌, ◌∙◌, ◌∷◌, ◌≡◌}
use Rattle.obq_model.specs.Located.{first_sites}

pub next_site : (k n : ℕ) → k < n → first_sites k (n - k) ≡ k ∷ first_sites (k + 1) (n - (k + 1))
next_site k n h =
    let e : n - k ≡ suc (n - (k + 1)) = omega (arith, h) in
    let f : suc k ≡ k + 1 = omega arith in
    ap (first_sites k) e ∙ ap (λ j. k ∷ first_sites j (n - (k + 1))) f

pub no_site : (k n : ℕ) → n ≤ k → first_sites k (n - k) ≡ []
no_site k n h = let e : n - k ≡ 0 = omega (arith, h) in ap (first_sites k) e

-- what so many sites add, one behind the other
pub onward : {A : Type 0} (f : List ℕ → List A) (g : ℕ → List A) → ((k : ℕ) (ks : List ℕ) → f (k ∷ ks) ≡ g k ++ f ks)
    → (k n : ℕ) → k < n → (xs ys all : List A) → ys ≡ xs ++ g k → xs ++ f (first_sites k (n - k)) ≡ all → ys ++ f (first_sites (k + 1) (n - (k + 1))) ≡ all
onward f g step k n h xs ys all e before =
    ap (λ zs. zs ++ f (first_sites (k + 1) (n - (k + 1)))) e
    ∙ append_assoc xs (g k) (f (first_sites (k + 1) (n - (k + 1))))
    ∙ ap (λ zs. xs ++ zs) (sym (ap f (next_site k n h) ∙ step k (first_sites (k + 1) (n - (k + 1)))))
    ∙ before
