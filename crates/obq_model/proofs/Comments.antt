-- How far a comment reaches.
use Rattle.std.proofs.Common.{◌≡◌, ℕ, zero, suc, ◌<◌, ◌≤◌, false, ◌&&◌, ◌==◌, cond, nat_le, List, [], ◌∷◌, length, refl, ◌∙◌, arith}
use Rattle.std.proofs.lemmas.Bool.{lt-leb, le-leb}
use Rattle.obq_model.specs.Tokens.{IsComment, comment, IsInside, empty, byte, whole, IsOpen, inside, opened, opens_comment, closes_comment}

pub data Outcome : Type 0 where
  Closed : List ℕ → Outcome
  Ends : Outcome
  High : List ℕ → Outcome

-- what ends a comment with d comments around it
pub scan : List ℕ → ℕ → Outcome
scan [] d = Ends
scan (b ∷ []) d = cond (nat_le 128 b) (High (b ∷ [])) Ends
scan (b ∷ c ∷ x) zero = cond (nat_le 128 b) (High (b ∷ c ∷ x)) (cond ((b == 40) && (c == 42)) (scan x 1) (cond ((b == 42) && (c == 41)) (Closed x) (scan (c ∷ x) zero)))
scan (b ∷ c ∷ x) (suc d) = cond (nat_le 128 b) (High (b ∷ c ∷ x)) (cond ((b == 40) && (c == 42)) (scan x (suc (suc d))) (cond ((b == 42) && (c == 41)) (scan x d) (scan (c ∷ x) (suc d))))

scan_byte : (b : ℕ) (x : List ℕ) (d : ℕ) → b < 128 → opens_comment (b ∷ x) ≡ false → closes_comment (b ∷ x) ≡ false → scan (b ∷ x) d ≡ scan x d
unfolding scan
scan_byte b [] d l o k = rw (lt-leb 128 b l) refl
scan_byte b (c ∷ x) zero l o k = rw (lt-leb 128 b l, o, k) refl
scan_byte b (c ∷ x) (suc d) l o k = rw (lt-leb 128 b l, o, k) refl

scan_opens : (x : List ℕ) (d : ℕ) → scan (40 ∷ 42 ∷ x) d ≡ scan x (suc d)
unfolding scan
scan_opens x zero = refl
scan_opens x (suc d) = refl

scan_closes : (x : List ℕ) (d : ℕ) → scan (42 ∷ 41 ∷ x) (suc d) ≡ scan x d
unfolding scan
scan_closes x d = refl

scan_closed : (x : List ℕ) → scan (42 ∷ 41 ∷ x) zero ≡ Closed x
unfolding scan
scan_closed x = refl

scan_end : (d : ℕ) → scan [] d ≡ Ends
unfolding scan
scan_end d = refl

scan_high : (b : ℕ) (x : List ℕ) (d : ℕ) → 128 ≤ b → scan (b ∷ x) d ≡ High (b ∷ x)
unfolding scan
scan_high b [] d h = rw (le-leb 128 b h) refl
scan_high b (c ∷ x) zero h = rw (le-leb 128 b h) refl
scan_high b (c ∷ x) (suc d) h = rw (le-leb 128 b h) refl

scan_inside : {x r : List ℕ} → IsInside x r → (d : ℕ) → scan x d ≡ scan r d
scan_inside empty d = refl
scan_inside (byte {b = b} {x = x} l o k h) d = scan_byte b x d l o k ∙ scan_inside h d
scan_inside (whole (comment {x = x} {r = r} h) k) d = scan_opens x d ∙ scan_inside h (suc d) ∙ scan_closes r d ∙ scan_inside k d

scan_open : {x r : List ℕ} → IsOpen x r → (d : ℕ) → (e : ℕ) × (scan x d ≡ scan r e)
scan_open (inside h) d = (d, scan_inside h d)
scan_open (opened {y = y} h k) d = let q = scan_open k (suc d) in (q.0, scan_inside h d ∙ scan_opens y d ∙ q.1)

pub closed_scan : {x r : List ℕ} → IsInside x (42 ∷ 41 ∷ r) → scan x 0 ≡ Closed r
closed_scan {r = r} h = scan_inside h 0 ∙ scan_closed r

pub open_scan : {x : List ℕ} → IsOpen x [] → scan x 0 ≡ Ends
open_scan h = let q = scan_open h 0 in q.1 ∙ scan_end q.0

pub high_scan : {b : ℕ} {x z : List ℕ} → IsOpen x (b ∷ z) → 128 ≤ b → scan x 0 ≡ High (b ∷ z)
high_scan {b = b} {z = z} h l = let q = scan_open h 0 in q.1 ∙ scan_high b z q.0 l

-- how much is left
mutual
  pub inside_length : {x r : List ℕ} → IsInside x r → length r ≤ length x
  inside_length empty = omega arith
  inside_length (byte l o k h) = let n = inside_length h in omega arith
  inside_length (whole c h) = let m = comment_length c in let n = inside_length h in omega arith

  pub comment_length : {x r : List ℕ} → IsComment x r → length r < length x
  comment_length (comment h) = let n = inside_length h in omega arith
