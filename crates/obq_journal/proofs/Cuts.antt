-- A text cut at the first byte of a kind.
use Rattle.std.proofs.Common.{List, [], drop, false, length, refl, subst, sym, take, ℕ, ◌+◌, ◌-◌, ◌==◌, ◌∙◌, ◌∷◌, ◌≡◌, ◌≤◌, ◌<◌, arith}
use Rattle.std.specs.List.{All, position_or_len, slice_split}
use Rattle.std.proofs.lemmas.Bool.{false_from_ne_true}
use Rattle.std.proofs.lemmas.List.Elements.{All-from_get_or}
use Rattle.std.proofs.lemmas.List.Splits.{slice_split_first, slice_split_none}
use Rattle.std.proofs.lemmas.List.Sums.{position_or_len_is}
use Rattle.std.proofs.lemmas.List.{length-drop}
use Rattle.std.proofs.Math.Seq.{take-length}
use Rattle.memchr.specs.Find.{NoneBefore, Nowhere, Passes, is_byte}

-- where the byte stands nowhere the text is its one part
pub cut_none : (byte : ℕ) (xs : List ℕ) → Nowhere (Passes (is_byte byte) xs) 0 (length xs) → slice_split (λ b. b == byte) xs ≡ xs ∷ []
cut_none byte xs h = slice_split_none _ xs (All-from_get_or (λ x. (x == byte) ≡ false) xs 0 (λ i l. false_from_ne_true _ (h i (omega arith) l)))

-- where it stands first at k, the first part ends there
pub cut_some : (byte : ℕ) (xs : List ℕ) (k : ℕ) → NoneBefore (Passes (is_byte byte) xs) 0 (length xs) k → Passes (is_byte byte) xs k → slice_split (λ b. b == byte) xs ≡ take k xs ∷ slice_split (λ b. b == byte) (take (length xs - (k + 1)) (drop (k + 1) xs))
cut_some byte xs k h at =
    let first : position_or_len (λ b. b == byte) xs ≡ k = position_or_len_is _ xs k 0 (omega (arith, h.high)) (λ i l. false_from_ne_true _ (h.before i (omega arith) l)) (λ _. at) in
    let behind : take (length xs - (k + 1)) (drop (k + 1) xs) ≡ drop (k + 1) xs = subst (λ n. take n (drop (k + 1) xs) ≡ drop (k + 1) xs) (length-drop (k + 1) xs) (take-length (drop (k + 1) xs)) in
    subst (λ rest. slice_split (λ b. b == byte) xs ≡ take k xs ∷ slice_split (λ b. b == byte) rest) (sym behind) (subst (λ place. slice_split (λ b. b == byte) xs ≡ take place xs ∷ slice_split (λ b. b == byte) (drop (place + 1) xs)) first (slice_split_first _ xs 0 (subst (λ place. place < length xs) (sym first) h.high)))
