-- How far the bytes and escapes of a text reach.
use Rattle.std.proofs.Common.{◌≡◌, ℕ, ◌+◌, ◌≤◌, Bool, true, false, ◌&&◌, ◌||◌, ◌==◌, List, [], ◌∷◌, ◌++◌, length, Some, refl, sym, ap, ◌∙◌, arith, is_some, append-nil}
use Rattle.obq_model.specs.Tokens.{IsContent, nothing, plain, escaped, is_plain, escape, begins_escape}

pub content_append : {v u x y r : List ℕ} → IsContent v x y → IsContent u y r → IsContent (v ++ u) x r
content_append nothing h = h
content_append (plain p g) h = plain p (content_append g h)
content_append (escaped e g) h = escaped e (content_append g h)

pub content_length : {v x r : List ℕ} → IsContent v x r → length r + length v ≤ length x
content_length nothing = omega arith
content_length (plain p g) = let n = content_length g in omega arith
content_length (escaped e g) = let n = content_length g in omega arith

-- a byte or an escape of a text stands there
abbrev pub begins_content : List ℕ → Bool
begins_content [] = false
begins_content (b ∷ x) = is_plain b || ((b == 92) && begins_escape x)

true_or : (a b : Bool) → a ≡ true → (a || b) ≡ false → ⊥
true_or a b h e = cc

some_escape : (c e : ℕ) (x : List ℕ) → escape c ≡ Some e → begins_escape (c ∷ x) ≡ true
some_escape c e x h = ap is_some h

-- what reads at least as far goes on from there
pub meets : {v u x z y : List ℕ} → IsContent v x z → IsContent u x y → begins_content y ≡ false → (w : List ℕ) × IsContent w z y × (u ≡ v ++ w)
meets {u = u} nothing h n = (u, h, refl)
meets (plain {b = b} {x = x} p g) nothing n = absurd (true_or (is_plain b) ((b == 92) && begins_escape x) p n)
meets (plain {b = b} p g) (plain q h) n = let m = meets g h n in (m.0, m.1, ap (λ l. b ∷ l) m.2)
meets (plain p g) (escaped e h) n = cc
meets (escaped {c = c} {e = b} {x = x} e g) nothing n = let t = some_escape c b x e in cc
meets (escaped e g) (plain q h) n = cc
meets (escaped {e = b} {v = v} e g) (escaped {e = c} {v = u} f h) n =
    let m = meets g h n in
    let same : b ≡ c = cc in
    (m.0, m.1, ap (λ k. k ∷ u) (sym same) ∙ ap (λ l. b ∷ l) m.2)

stuck : {v x y : List ℕ} → IsContent v x y → begins_content x ≡ false → (v ≡ []) × (x ≡ y)
stuck nothing n = (refl, refl)
stuck (plain {b = b} {x = x} p g) n = absurd (true_or (is_plain b) ((b == 92) && begins_escape x) p n)
stuck (escaped {c = c} {e = b} {x = x} e g) n = let t = some_escape c b x e in cc

-- what reads as far as it goes is one
pub content_unique : {v u x z y : List ℕ} → IsContent v x z → begins_content z ≡ false → IsContent u x y → begins_content y ≡ false → (v ≡ u) × (z ≡ y)
content_unique {v = v} g m h n =
    let a = meets g h n in
    let b = stuck a.1 m in
    (sym (a.2 ∙ ap (λ l. v ++ l) b.0 ∙ append-nil v), b.1)
