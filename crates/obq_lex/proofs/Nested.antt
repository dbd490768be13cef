-- Comments inside comments, as the loop over one goes through them.
use Rattle.std.proofs.Common.{◌≡◌, ◌⊎◌, inl, inr, ℕ, zero, suc, ◌+◌, ◌≤◌, ◌<◌, List, ◌∷◌, refl, subst, arith, false}
use Rattle.obq_model.specs.Tokens.{IsInside, empty, byte, whole, comment, IsOpen, inside, opened, opens_comment, closes_comment}

-- x stands inside so many comments, the outermost of which has r behind it
abbrev pub Closes : ℕ → List ℕ → List ℕ → Type 0
Closes zero x r = x ≡ r
Closes (suc d) x r = (y : List ℕ) × IsInside x (42 ∷ 41 ∷ y) × Closes d y r

-- x stands inside so many comments, of which some are open up to z
abbrev pub Reaches : ℕ → List ℕ → List ℕ → Type 0
Reaches zero x z = ⊥
Reaches (suc d) x z = IsOpen x z ⊎ ((y : List ℕ) × IsInside x (42 ∷ 41 ∷ y) × Reaches d y z)

-- the loop stands at `rest`, inside so many comments, of which x is the inside of the outermost
pub record Stands (depth : ℕ) (x rest : List ℕ) : Type 0 where
  pub closes : (r : List ℕ) → Closes depth rest r → IsInside x (42 ∷ 41 ∷ r)
  pub reaches : (z : List ℕ) → Reaches depth rest z → IsOpen x z

pub stands_first : (x : List ℕ) → Stands 1 x x
stands_first x = record {
  closes = λ r c. subst (λ y. IsInside x (42 ∷ 41 ∷ y)) c.2 c.1;
  reaches = λ z h. elim h [ inl o ↦ o | inr q ↦ absurd q.2 ];
}

-- what goes on inside also does so from further back
abbrev Ahead : List ℕ → List ℕ → Type 0
Ahead x y = (r : List ℕ) → IsInside y r → IsInside x r

ahead_open : {x y z : List ℕ} → Ahead x y → IsOpen y z → IsOpen x z
ahead_open f (inside {r = r} h) = inside (f r h)
ahead_open f (opened {y = y} h k) = opened (f (40 ∷ 42 ∷ y) h) k

ahead_reaches : (d : ℕ) {x y : List ℕ} (z : List ℕ) → Ahead x y → Reaches (suc d) y z → Reaches (suc d) x z
ahead_reaches d z f h = elim h [ inl o ↦ inl (ahead_open f o) | inr q ↦ inr (q.0, f (42 ∷ 41 ∷ q.0) q.1, q.2) ]

ahead_closes : (d : ℕ) {x y : List ℕ} (r : List ℕ) → Ahead x y → Closes (suc d) y r → Closes (suc d) x r
ahead_closes d r f c = (c.0, f (42 ∷ 41 ∷ c.0) c.1, c.2)

pub stands_byte : (d b : ℕ) (x w y : List ℕ) → 1 ≤ d → w ≡ b ∷ y → b < 128 → opens_comment (b ∷ y) ≡ false → closes_comment (b ∷ y) ≡ false → Stands d x w → Stands d x y
stands_byte zero b x w y l e h o k s = absurd (omega arith)
stands_byte (suc d) b x w y l e h o k s =
    let s' = subst (λ v. Stands (suc d) x v) e s in
    record {
      closes = λ r c. s'.closes r (ahead_closes d r (λ q i. byte h o k i) c);
      reaches = λ z c. s'.reaches z (ahead_reaches d z (λ q i. byte h o k i) c);
    }

pub stands_opens : (d e : ℕ) (x w y : List ℕ) → 1 ≤ d → e ≡ d + 1 → w ≡ 40 ∷ 42 ∷ y → Stands d x w → Stands e x y
stands_opens zero e x w y l q p s = absurd (omega arith)
stands_opens (suc d) e x w y l q p s =
    let s' = subst (λ v. Stands (suc d) x v) p s in
    let same : suc (suc d) ≡ e = omega arith in
    subst (λ n. Stands n x y) same (record {
      closes = λ r c. s'.closes r (c.2.0, whole (comment c.1) c.2.1, c.2.2);
      reaches = λ z c. s'.reaches z (elim c [ inl o ↦ inl (opened empty o) | inr g ↦ ahead_reaches d z (λ r i. whole (comment g.1) i) g.2 ]);
    })

pub stands_closes : (d e : ℕ) (x w y : List ℕ) → 2 ≤ d → d ≡ e + 1 → w ≡ 42 ∷ 41 ∷ y → Stands d x w → Stands e x y
stands_closes d zero x w y l q p s = absurd (omega arith)
stands_closes d (suc e) x w y l q p s =
    let same : d ≡ suc (suc e) = omega arith in
    let s' = subst (λ n. Stands n x (42 ∷ 41 ∷ y)) same (subst (λ v. Stands d x v) p s) in
    record {
      closes = λ r c. s'.closes r (y, empty, c);
      reaches = λ z c. s'.reaches z (inr (y, empty, c));
    }

-- the outermost comment is closed
pub stands_closed : (d : ℕ) (x w y : List ℕ) → d ≡ 1 → w ≡ 42 ∷ 41 ∷ y → Stands d x w → IsInside x (42 ∷ 41 ∷ y)
stands_closed d x w y q p s =
    let s' = subst (λ n. Stands n x (42 ∷ 41 ∷ y)) q (subst (λ v. Stands d x v) p s) in
    s'.closes y (y, empty, refl)

-- the comments are open here
pub stands_open : (d : ℕ) (x w : List ℕ) → 1 ≤ d → Stands d x w → IsOpen x w
stands_open zero x w l s = absurd (omega arith)
stands_open (suc d) x w l s = s.reaches w (inl (inside empty))
