-- Decimal numbers that are read.
use Rattle.std.proofs.Common.{arith, get_or, Err, List, None, [], false, length, refl, rules, true, nat_le, ℕ, ◌<◌, ◌==◌, ◌^◌, ◌∷◌, ◌≡◌, ◌≤◌}
use Rattle.std.specs.Char.{is_ascii_digit}
use Rattle.std.specs.List.{list_all}
use Rattle.std.specs.Str.Parse.{ParsesUnsigned, digits_value}
use Rattle.std.proofs.lemmas.Str.Parse.{IsNumeralModel, numerals_by_value, parse_digits}
use Rattle.std.proofs.lemmas.Bool.{false_from_ne_true}
use Rattle.obq_model.specs.JournalText.{is_number, number_from}

-- its digits
abbrev pub AreDigits : List ℕ → Type 0
AreDigits w = list_all is_ascii_digit w ≡ true

pub numerals : IsNumeralModel AreDigits (digits_value 10)
numerals = numerals_by_value AreDigits (search rules)

pub number_digits : (w : List ℕ) → is_number w ≡ true → AreDigits w
number_digits [] h = refl
number_digits (d ∷ []) h = search rules
number_digits (d ∷ e ∷ ds) h = search rules

pub number_length : (w : List ℕ) → is_number w ≡ true → 0 < length w
number_length [] h = search rules
number_length (d ∷ ds) h = omega arith

-- two digits and more: what is read behind the first
pub longer_number : (w : List ℕ) → 2 ≤ length w → (get_or w 0 0 == 48) ≡ false → is_number w ≡ list_all is_ascii_digit w
longer_number [] l n = search rules
longer_number (d ∷ []) l n = search rules
longer_number (d ∷ e ∷ ds) l n = search rules

-- where no number of 32 bits is read there is none
pub unread : {E : Type 0} (least most : ℕ) (w : List ℕ) (x : E) → most < 2 ^ 32 → is_number w ≡ true → ParsesUnsigned 32 10 w (Err x) → None ≡ number_from least most w
unread least most w x small is h =
    let no : ¬ (digits_value 10 w < 2 ^ 32) = λ l. parse_digits numerals 32 w (Err x) h (number_digits w is) (number_length w is, l) in
    let large : nat_le (digits_value 10 w) most ≡ false = false_from_ne_true _ (λ l. no (search (rules, arith, l, small))) in
    search (rules, is, large)
