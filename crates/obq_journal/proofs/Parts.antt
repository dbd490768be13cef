-- Texts whose parts are known.
use Rattle.std.proofs.Common.{Bool, List, [], ap, false, not, refl, rules, true, ℕ, ◌&&◌, ◌++◌, ◌<◌, ◌==◌, ◌∙◌, ◌∷◌, ◌≡◌}
use Rattle.std.specs.Int.{IsInRange}
use Rattle.std.specs.List.{list_all, onto_first, slice_split}
use Rattle.std.specs.Str.Parse.{AllDigits}
use Rattle.std.proofs.lemmas.List.Folds.{list_all-append}
use Rattle.std.proofs.lemmas.List.Splits.{slice_split-cons_no, slice_split-cons_yes}
use Rattle.std.proofs.lemmas.Str.Parse.{digit_from_value}
use Rattle.obq_model.specs.JournalText.{ends_line, is_space}

-- no byte passes the test
abbrev pub none_of : (ℕ → Bool) → List ℕ → Bool
none_of p xs = list_all (λ b. not (p b)) xs

head_fails : (p : ℕ → Bool) (x : ℕ) (xs : List ℕ) → none_of p (x ∷ xs) ≡ true → p x ≡ false
head_fails p x xs h = search rules

tail_fails : (p : ℕ → Bool) (x : ℕ) (xs : List ℕ) → none_of p (x ∷ xs) ≡ true → none_of p xs ≡ true
tail_fails p x xs h = search rules

-- what stands before the first byte that passes is the first part
pub split_here : (p : ℕ → Bool) (xs : List ℕ) (y : ℕ) (ys : List ℕ) → none_of p xs ≡ true → p y ≡ true → slice_split p (xs ++ y ∷ ys) ≡ xs ∷ slice_split p ys
split_here p [] y ys h at = slice_split-cons_yes p y ys at
split_here p (x ∷ xs) y ys h at = slice_split-cons_no p x (xs ++ y ∷ ys) (head_fails p x xs h) ∙ ap (onto_first x) (split_here p xs y ys (tail_fails p x xs h) at)

pub split_whole : (p : ℕ → Bool) (xs : List ℕ) → none_of p xs ≡ true → slice_split p xs ≡ xs ∷ []
split_whole p [] h = refl
split_whole p (x ∷ xs) h = slice_split-cons_no p x xs (head_fails p x xs h) ∙ ap (onto_first x) (split_whole p xs (tail_fails p x xs h))

pub none_append : (p : ℕ → Bool) (xs ys : List ℕ) → none_of p xs ≡ true → none_of p ys ≡ true → none_of p (xs ++ ys) ≡ true
none_append p xs ys h k = list_all-append (λ b. not (p b)) xs ys ∙ search (rules, h, k)

both : (a b : Bool) → a ≡ true → b ≡ true → (a && b) ≡ true
both a b e f = search rules

-- digits pass no test that none of the ten passes
pub none_of_digits : (p : ℕ → Bool) (ds : List ℕ) → ((d : ℕ) → IsInRange 48 57 d → p d ≡ false) → AllDigits 10 ds → none_of p ds ≡ true
none_of_digits p [] apart h = refl
none_of_digits p (d ∷ ds) apart h = both (not (p d)) (none_of p ds) (ap not (apart d (digit_from_value d h.0))) (none_of_digits p ds apart h.1)

pub digit_no_space : (d : ℕ) → IsInRange 48 57 d → is_space d ≡ false
digit_no_space d h = search rules

pub digit_no_end : (d : ℕ) → IsInRange 48 57 d → ends_line d ≡ false
digit_no_end d h = search rules
