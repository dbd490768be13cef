-- How spellings begin, and how far they reach.
use Rattle.std.proofs.Common.{◌≡◌, ℕ, zero, suc, ◌≤◌, Bool, true, false, ◌&&◌, ◌==◌, not, nat_lt, List, [], ◌∷◌, ◌++◌, length, Some, refl, ap, ◌∙◌, arith, subst, length-append}
use Rattle.std.specs.Prelude.{slice_get, position, get_or}
use Rattle.std.specs.Str.{bytes_eq}
use Rattle.std.proofs.lemmas.Slice.Eq.{bytes_eq-Decides}
use Rattle.std.proofs.lemmas.List.Quantifiers.{position-Some}
use Rattle.std.proofs.lemmas.Option.{slice_get-get_or}
use Rattle.std.specs.List.{list_all}
use Rattle.std.specs.Char.{is_ascii_alphabetic, is_ascii_digit}
use Rattle.std.proofs.lemmas.Bool.{and_parts}
use Rattle.std.proofs.lemmas.Bool.Decides.{nat_tests}
use Rattle.obq_tables.specs.Tables.{symbols}
use Rattle.obq_model.specs.Tokens.{Lexeme, Word, Number, Literal, Mark, Spells, word, number, minus, literal, mark, is_word, are_digits, is_word_byte, is_white, begins}

-- a byte that begins a symbol
abbrev pub is_sign : ℕ → Bool
is_sign b = nat_lt b 128 && (not (is_ascii_alphabetic b) && (not (is_ascii_digit b) && (not (b == 126) && (not (b == 34) && not (is_white b)))))

-- one or two bytes, the first of them a sign
abbrev pub is_key : List ℕ → Bool
is_key [] = false
is_key (b ∷ []) = is_sign b
is_key (b ∷ c ∷ []) = is_sign b
is_key (b ∷ c ∷ d ∷ ks) = false

pub all_at : {X : Type 0} (p : X → Bool) (xs : List X) (k : ℕ) (x : X) → list_all p xs ≡ true → slice_get xs k ≡ Some x → p x ≡ true
all_at p [] k x h e = cc
all_at p (y ∷ ys) zero x h e = let same : y ≡ x = cc in subst (λ z. p z ≡ true) same (and_parts (p y) (list_all p ys) h).0
all_at p (y ∷ ys) (suc k) x h e = all_at p ys k x (and_parts (p y) (list_all p ys) h).1 e

-- what a search in a table finds
pub found_key : (keys : List (List ℕ)) (key : List ℕ) (k : ℕ) → position (λ s. bytes_eq s key) keys ≡ Some k → slice_get keys k ≡ Some key
found_key keys key k e =
    let at = position-Some (λ s. bytes_eq s key) keys k key e in
    let same : get_or keys k key ≡ key = (bytes_eq-Decides (get_or keys k key) key).0 at.1 in
    slice_get-get_or keys k key at.0 ∙ ap Some same

pub symbol_is_key : (k : ℕ) (key : List ℕ) → position (λ s. bytes_eq s key) symbols ≡ Some k → is_key key ≡ true
symbol_is_key k key e = all_at is_key symbols k key refl (found_key symbols key k e)

pub key_length : (key : List ℕ) → is_key key ≡ true → length key ≤ 2
key_length [] h = omega arith
key_length (b ∷ []) h = omega arith
key_length (b ∷ c ∷ []) h = omega arith
key_length (b ∷ c ∷ d ∷ ks) h = cc

-- how a spelling of the lexeme begins
abbrev pub Starts : Lexeme → ℕ → Type 0
Starts (Word w) b = is_ascii_alphabetic b ≡ true
Starts (Number false ds) b = is_ascii_digit b ≡ true
Starts (Number true ds) b = b ≡ 126
Starts (Literal v) b = b ≡ 34
Starts (Mark k) b = is_sign b ≡ true

word_start : (w r : List ℕ) → is_word w ≡ true → (b : ℕ) × (y : List ℕ) × (w ++ r ≡ b ∷ y) × (is_ascii_alphabetic b ≡ true)
word_start [] r h = cc
word_start (b ∷ bs) r h = (b, bs ++ r, refl, (and_parts (is_ascii_alphabetic b) (list_all is_word_byte bs) h).0)

digit_start : (ds r : List ℕ) → are_digits ds ≡ true → (b : ℕ) × (y : List ℕ) × (ds ++ r ≡ b ∷ y) × (is_ascii_digit b ≡ true)
digit_start [] r h = cc
digit_start (b ∷ bs) r h = (b, bs ++ r, refl, (and_parts (is_ascii_digit b) (list_all is_ascii_digit bs) h).0)

key_start : (key r : List ℕ) → is_key key ≡ true → (b : ℕ) × (y : List ℕ) × (key ++ r ≡ b ∷ y) × (is_sign b ≡ true)
key_start [] r h = cc
key_start (b ∷ []) r h = (b, r, refl, h)
key_start (b ∷ c ∷ []) r h = (b, c ∷ r, refl, h)
key_start (b ∷ c ∷ d ∷ ks) r h = cc

pub start_of : {l : Lexeme} {x r : List ℕ} → Spells l x r → (b : ℕ) × (y : List ℕ) × (x ≡ b ∷ y) × Starts l b
start_of (word {w = w} {r = r} h e) = let q = word_start w r h in (q.0, q.1, e ∙ q.2, q.3)
start_of (number {ds = ds} {r = r} h e) = let q = digit_start ds r h in (q.0, q.1, e ∙ q.2, q.3)
start_of (minus {x = x} h e) = (126, x, refl, refl)
start_of (literal {x = x} h) = (34, x, refl, refl)
start_of (mark {k = k} key {r = r} h e) = let q = key_start key r (symbol_is_key k key h) in (q.0, q.1, e ∙ q.2, q.3)

-- how a spelling that begins with b begins
pub starts : {l : Lexeme} {b : ℕ} {x r : List ℕ} → Spells l (b ∷ x) r → Starts l b
starts {l = l} {b = b} s = let q = start_of s in let same : q.0 ≡ b = cc (q.2) in subst (Starts l) same q.3

-- no byte begins two kinds
pub letter_digit : (b : ℕ) → is_ascii_alphabetic b ≡ true → is_ascii_digit b ≡ true → ⊥
letter_digit b h d = grind (arith, nat_tests)

pub letter_sign : (b : ℕ) → is_ascii_alphabetic b ≡ true → is_sign b ≡ true → ⊥
letter_sign b h s = grind (arith, nat_tests)

pub digit_sign : (b : ℕ) → is_ascii_digit b ≡ true → is_sign b ≡ true → ⊥
digit_sign b h s = grind (arith, nat_tests)

-- a run of bytes that pass a test reaches as far as any that ends where a byte doesn't pass it
pub run_longest : (p : ℕ → Bool) (w v r s : List ℕ) → list_all p v ≡ true → begins p r ≡ false → w ++ r ≡ v ++ s → length r ≤ length s
run_longest p [] [] r s h n e = let same = ap length e in omega arith
run_longest p [] (c ∷ v) r s h n e =
    let first : p c ≡ true = (and_parts (p c) (list_all p v) h).0 in
    let other : p c ≡ false = subst (λ z. begins p z ≡ false) e n in cc
run_longest p (b ∷ w) [] r s h n e = let same = ap length e in omega (arith, length-append w r)
run_longest p (b ∷ w) (c ∷ v) r s h n e = run_longest p w v r s (and_parts (p c) (list_all p v) h).1 n (let t : w ++ r ≡ v ++ s = cc in t)
