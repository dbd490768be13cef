-- Integers of 64 bits, and the lengths of texts.
use Rattle.std.specs.Prelude.{Bool, codes, drop, false, if◌then◌else◌, int_lt, length, nat_lt, negsuc, pos, refl, suc, take, true, zero, ℕ, ℤ, ◌+ℤ◌, ◌<◌, ◌^◌, ◌≡◌, ◌≤◌}
use Rattle.std.specs.Fmt.{signed_decimal}
use Rattle.std.proofs.Common.{arith}
use Rattle.std.proofs.lemmas.Bool.Decides.{nat_tests}
use Rattle.std.proofs.lemmas.Fmt.{length-decimal-le}
use Rattle.std.proofs.lemmas.List.{length-drop, length-take}
use Rattle.obq_model.specs.Builtins.{is_i64}
use Rattle.obq_model.specs.Terms.{Bytes}

-- a part of a text isn't longer
pub part_length : (a b : ℕ) (t : Bytes) → length (take b (drop a t)) ≤ length t
part_length a b t = let l = length-take b (drop a t) in let m = length-drop a t in omega (arith, l, m)

-- what an integer of 64 bits is written as
pub decimal_short : (z : ℤ) → is_i64 z ≡ true → length (signed_decimal z) ≤ 65536
decimal_short (pos n) h = let l = length-decimal-le 19 n (omega arith) (below_power n h) (below_word n h) in omega (arith, l)
  where
    below_power : (n : ℕ) → nat_lt n (2 ^ 63) ≡ true → n < 10 ^ 19
    below_power n h = grind (arith, nat_tests)

    below_word : (n : ℕ) → nat_lt n (2 ^ 63) ≡ true → n < 2 ^ 64
    below_word n h = grind (arith, nat_tests)
decimal_short (negsuc n) h = let l = length-decimal-le 19 (suc n) (omega arith) (below_power n h) (below_word n h) in omega (arith, l)
  where
    below_power : (n : ℕ) → nat_lt n (2 ^ 63) ≡ true → suc n < 10 ^ 19
    below_power n h = grind (arith, nat_tests)

    below_word : (n : ℕ) → nat_lt n (2 ^ 63) ≡ true → suc n < 2 ^ 64
    below_word n h = grind (arith, nat_tests)

-- a length is an integer of 64 bits
pub length_int : (n : ℕ) → n ≤ 65536 → is_i64 (pos n) ≡ true
length_int n le = grind (arith, nat_tests)

pub truth_length : (b : Bool) → length (if b then codes "true" else codes "false") ≤ 65536
truth_length true = omega arith
truth_length false = omega arith

-- the next integer, where it isn't above the last one
pub next_int : (i n : ℤ) → is_i64 i ≡ true → is_i64 n ≡ true → int_lt n (i +ℤ pos 1) ≡ false → is_i64 (i +ℤ pos 1) ≡ true
next_int (pos a) (pos m) h l e = grind (arith, nat_tests)
next_int (pos a) (negsuc m) h l e = absurd (cc e)
next_int (negsuc zero) n h l e = refl
next_int (negsuc (suc a)) n h l e = grind (arith, nat_tests)
