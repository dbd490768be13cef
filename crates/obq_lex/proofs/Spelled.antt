-- The tokens that stand at a place are the longest there.
use Rattle.std.proofs.Common.{◌≡◌, ℕ, zero, suc, ◌≤◌, Bool, true, false, ◌==◌, List, [], ◌∷◌, ◌++◌, length, take, drop, Option, Some, None, refl, sym, ap, ◌∙◌, arith, subst, length-append, take-append-drop}
use Rattle.std.specs.Prelude.{position, is_some}
use Rattle.std.specs.Borrow.{Bor}
use Rattle.std.specs.List.{list_all}
use Rattle.std.specs.Str.{bytes_eq}
use Rattle.std.specs.Char.{is_ascii_alphabetic, is_ascii_digit}
use Rattle.std.proofs.lemmas.Bool.{and_parts, and_from, leb-false, both_ways, eq-eqb}
use Rattle.std.proofs.lemmas.Bool.Decides.{nat_tests}
use Rattle.obq_base.specs.declared.limits.TheConstants.{TEXT_LIMIT}
use Rattle.obq_base.specs.declared.faults.LexKind.TheVariants.{Real, IntRange, Stray}
use Rattle.obq_tables.specs.Tables.{symbols}
use Rattle.obq_model.specs.Tokens.{IsContent, Lexeme, Word, Number, Literal, Mark, Spells, word, number, minus, literal, mark, IsLongest, IsToken, IsFault, real, int_range, stray, is_word, are_digits, is_word_byte, begins, opens_comment, begins_fraction, is_in_range}
use Rattle.obq_model.proofs.Spellings.{Starts, starts, run_longest, letter_digit, letter_sign, digit_sign, key_length, symbol_is_key, start_of}
use Rattle.obq_model.proofs.Contents.{content_unique}
use Rattle.obq_lex.specs.Scans.{BeginsNoOther, IsSigned, ReadsSymbol, ReadsSymbolOf}

word_bytes : (w : List ℕ) → is_word w ≡ true → list_all is_word_byte w ≡ true
word_bytes [] h = cc
word_bytes (b ∷ bs) h =
    let q = and_parts (is_ascii_alphabetic b) (list_all is_word_byte bs) h in
    let letter : is_ascii_alphabetic b ≡ true = q.0 in
    and_from (is_word_byte b) (list_all is_word_byte bs) (rw letter refl) q.1

digit_bytes : (ds : List ℕ) → are_digits ds ≡ true → list_all is_ascii_digit ds ≡ true
digit_bytes [] h = cc
digit_bytes (b ∷ bs) h = h

word_reach : {m : Lexeme} {b : ℕ} {y s : List ℕ} (w r : List ℕ) → is_ascii_alphabetic b ≡ true → begins is_word_byte r ≡ false → b ∷ y ≡ w ++ r → Spells m (b ∷ y) s → Starts m b → length r ≤ length s
word_reach {s = s} w r l n e (word {w = v} h f) t = run_longest is_word_byte w v r s (word_bytes v h) n (sym e ∙ f)
word_reach {b = b} w r l n e (number h f) t = absurd (letter_digit b l t)
word_reach w r l n e (minus h f) t = cc
word_reach w r l n e (literal g) t = cc
word_reach {b = b} w r l n e (mark key h f) t = absurd (letter_sign b l t)

number_reach : {m : Lexeme} {b : ℕ} {y s : List ℕ} (w r : List ℕ) → is_ascii_digit b ≡ true → begins is_ascii_digit r ≡ false → b ∷ y ≡ w ++ r → Spells m (b ∷ y) s → Starts m b → length r ≤ length s
number_reach {b = b} w r l n e (word h f) t = absurd (letter_digit b t l)
number_reach {s = s} w r l n e (number {ds = v} h f) t = run_longest is_ascii_digit w v r s (digit_bytes v h) n (sym e ∙ f)
number_reach w r l n e (minus h f) t = cc
number_reach w r l n e (literal g) t = cc
number_reach {b = b} w r l n e (mark key h f) t = absurd (digit_sign b l t)

minus_reach : {m : Lexeme} {y s : List ℕ} (w r : List ℕ) → begins is_ascii_digit r ≡ false → y ≡ w ++ r → Spells m (126 ∷ y) s → Starts m 126 → length r ≤ length s
minus_reach w r n e (word h f) t = cc
minus_reach w r n e (number h f) t = cc
minus_reach {s = s} w r n e (minus {ds = v} h f) t = run_longest is_ascii_digit w v r s (digit_bytes v h) n (sym e ∙ f)
minus_reach w r n e (mark key h f) t = cc

literal_reach : {m : Lexeme} {v y r s : List ℕ} → IsContent v y (34 ∷ r) → Spells m (34 ∷ y) s → Starts m 34 → length r ≤ length s
literal_reach g (word h f) t = cc
literal_reach g (number h f) t = cc
literal_reach {r = r} {s = s} g (literal h) t = let same = ap length (content_unique g refl h refl).1 in omega arith
literal_reach g (mark key h f) t = cc

-- a letter, a digit, `~` and `"` open no comment
no_comment : (b : ℕ) (y : List ℕ) → (b == 40) ≡ false → opens_comment (b ∷ y) ≡ false
no_comment b [] h = refl
no_comment b (c ∷ y) h = rw h refl

letter_no_comment : (b : ℕ) → is_ascii_alphabetic b ≡ true → (b == 40) ≡ false
letter_no_comment b l = grind (arith, nat_tests)

digit_no_comment : (b : ℕ) → is_ascii_digit b ≡ true → (b == 40) ≡ false
digit_no_comment b l = grind (arith, nat_tests)

pub word_token : (w x r : List ℕ) → is_word w ≡ true → begins is_word_byte r ≡ false → x ≡ w ++ r → IsToken (Word w) x r
word_token [] x r h n e = cc
word_token (b ∷ bs) x r h n e =
    let letter : is_ascii_alphabetic b ≡ true = (and_parts (is_ascii_alphabetic b) (list_all is_word_byte bs) h).0 in
    subst (λ y. IsToken (Word (b ∷ bs)) y r) (sym e) (record {
      outside = no_comment b (bs ++ r) (letter_no_comment b letter);
      there = record { spelled = word h refl; longest = λ m s t. word_reach (b ∷ bs) r letter n refl t (starts t) };
      sound = tt;
    })

pub longest_number : (ds x r : List ℕ) → are_digits ds ≡ true → begins is_ascii_digit r ≡ false → x ≡ ds ++ r → IsLongest (Number false ds) x r
longest_number [] x r h n e = cc
longest_number (b ∷ bs) x r h n e =
    let digit : is_ascii_digit b ≡ true = (and_parts (is_ascii_digit b) (list_all is_ascii_digit bs) h).0 in
    subst (λ y. IsLongest (Number false (b ∷ bs)) y r) (sym e) (record { spelled = number h refl; longest = λ m s t. number_reach (b ∷ bs) r digit n refl t (starts t) })

pub longest_minus : (ds x r : List ℕ) → are_digits ds ≡ true → begins is_ascii_digit r ≡ false → x ≡ ds ++ r → IsLongest (Number true ds) (126 ∷ x) r
longest_minus ds x r h n e = record { spelled = minus h e; longest = λ m s t. minus_reach ds r n e t (starts t) }

digits_no_comment : (ds x r : List ℕ) → are_digits ds ≡ true → x ≡ ds ++ r → opens_comment x ≡ false
digits_no_comment [] x r h e = cc
digits_no_comment (b ∷ bs) x r h e = ap opens_comment e ∙ no_comment b (bs ++ r) (digit_no_comment b (and_parts (is_ascii_digit b) (list_all is_ascii_digit bs) h).0)

pub number_token : (ds x r : List ℕ) → are_digits ds ≡ true → begins is_ascii_digit r ≡ false → x ≡ ds ++ r → is_in_range false ds ≡ true → begins_fraction r ≡ false → IsToken (Number false ds) x r
number_token ds x r h n e i f = record { outside = digits_no_comment ds x r h e; there = longest_number ds x r h n e; sound = (i, f) }

pub minus_token : (ds x r : List ℕ) → are_digits ds ≡ true → begins is_ascii_digit r ≡ false → x ≡ ds ++ r → is_in_range true ds ≡ true → begins_fraction r ≡ false → IsToken (Number true ds) (126 ∷ x) r
minus_token ds x r h n e i f = record { outside = no_comment 126 x refl; there = longest_minus ds x r h n e; sound = (i, f) }

pub text_token : (v y r : List ℕ) → IsContent v y (34 ∷ r) → length v ≤ TEXT_LIMIT → IsToken (Literal v) (34 ∷ y) r
text_token v y r g l = record { outside = no_comment 34 y refl; there = record { spelled = literal g; longest = λ m s t. literal_reach g t (starts t) }; sound = l }

not_first : (p : ℕ → Bool) (x : List ℕ) (b : ℕ) (y : List ℕ) → begins p x ≡ false → x ≡ b ∷ y → p b ≡ true → ⊥
not_first p x b y n e h = both_ways (p b) (ap (begins p) (sym e) ∙ n) h

minus_start : (ds x r : List ℕ) → are_digits ds ≡ true → x ≡ ds ++ r → begins is_ascii_digit x ≡ false → ⊥
minus_start [] x r h e n = absurd (both_ways false refl h)
minus_start (d ∷ ds) x r h e n = not_first is_ascii_digit x d (ds ++ r) n e (and_parts (is_ascii_digit d) (list_all is_ascii_digit ds) h).0

-- where no other token begins, none but a symbol is spelled
only : {m : Lexeme} {x s : List ℕ} (b : ℕ) (y : List ℕ) → BeginsNoOther x → Spells m x s → x ≡ b ∷ y → Starts m b → (k : ℕ) × (m ≡ Mark k)
only {x = x} b y o (word h f) e t = absurd (not_first is_ascii_alphabetic x b y o.no_letter e t)
only {x = x} b y o (number h f) e t = absurd (not_first is_ascii_digit x b y o.no_digit e t)
only b y o (minus {ds = ds} {x = x} {r = r} h f) e t = absurd (minus_start ds x r h f (o.no_minus x refl))
only b y o (literal g) e t = absurd (both_ways true o.no_text refl)
only b y o (mark {k = k} key h f) e t = (k, refl)

only_mark : {m : Lexeme} {x s : List ℕ} → BeginsNoOther x → Spells m x s → (k : ℕ) × (m ≡ Mark k)
only_mark o t = let q = start_of t in only q.0 q.1 o t q.2 q.3

pub mark_token : (k : ℕ) (x r : List ℕ) → BeginsNoOther x → Spells (Mark k) x r → ((j : ℕ) (s : List ℕ) → Spells (Mark j) x s → length r ≤ length s) → IsToken (Mark k) x r
mark_token k x r o g l = record {
  outside = o.no_comment;
  there = record {
    spelled = g;
    longest = λ m s t. let q = only_mark o t in l q.0 s (subst (λ n. Spells n x s) q.1 t);
  };
  sound = tt;
}

pub stray_there : (x : List ℕ) → BeginsNoOther x → ((j : ℕ) (s : List ℕ) → Spells (Mark j) x s → ⊥) → IsFault Stray x x
stray_there [] o l = absurd (o.there refl)
stray_there (b ∷ x) o l = stray (leb-false 128 b o.low) o.not_white (λ e. let t : (b == 34) ≡ true = eq-eqb b 34 e in both_ways (b == 34) o.no_text t) (λ m s t. let q = only_mark o t in l q.0 s (subst (λ n. Spells n (b ∷ x) s) q.1 t))

pub word_there : (n : ℕ) (xs : List ℕ) → list_all is_word_byte (take n xs) ≡ true → begins is_word_byte (drop n xs) ≡ false → begins is_ascii_alphabetic xs ≡ true → is_word (take n xs) ≡ true
word_there zero [] h e b = cc
word_there zero (x ∷ xs) h e b = let t : is_word_byte x ≡ true = rw b refl in absurd (both_ways (is_word_byte x) e t)
word_there (suc n) [] h e b = cc
word_there (suc n) (x ∷ xs) h e b = and_from (is_ascii_alphabetic x) (list_all is_word_byte (take n xs)) b (and_parts (is_word_byte x) (list_all is_word_byte (take n xs)) h).1

pub digits_there : (n : ℕ) (xs : List ℕ) → list_all is_ascii_digit (take n xs) ≡ true → begins is_ascii_digit (drop n xs) ≡ false → begins is_ascii_digit xs ≡ true → are_digits (take n xs) ≡ true
digits_there zero [] h e b = cc
digits_there zero (x ∷ xs) h e b = absurd (both_ways (is_ascii_digit x) e b)
digits_there (suc n) [] h e b = cc
digits_there (suc n) (x ∷ xs) h e b = h

-- the word and what is left, as they were cut off
pub word_cut : (n : ℕ) (x w r : List ℕ) → w ≡ take n x → r ≡ drop n x → list_all is_word_byte (take n x) ≡ true → begins is_word_byte (drop n x) ≡ false → begins is_ascii_alphabetic x ≡ true → IsToken (Word w) x r
word_cut n x w r p q h e b =
    let t = word_token (take n x) x (drop n x) (word_there n x h e b) e (sym (take-append-drop n x)) in
    subst (λ v. IsToken (Word v) x r) (sym p) (subst (λ s. IsToken (Word (take n x)) x s) (sym q) t)

-- the digits and what is left, as they were cut off
pub record IsCut (minus : Bool) (x digits ds r : List ℕ) : Type 0 where
  pub signed : IsSigned minus x digits
  pub all : are_digits ds ≡ true
  pub ends : begins is_ascii_digit r ≡ false
  pub joined : digits ≡ ds ++ r

pub digits_cut : (minus : Bool) (n : ℕ) (x digits ds r : List ℕ) → IsSigned minus x digits → begins is_ascii_digit digits ≡ true → ds ≡ take n digits → r ≡ drop n digits → list_all is_ascii_digit (take n digits) ≡ true → begins is_ascii_digit (drop n digits) ≡ false → IsCut minus x digits ds r
digits_cut m n x digits ds r s b p q h e = record {
  signed = s;
  all = ap are_digits p ∙ digits_there n digits h e b;
  ends = ap (begins is_ascii_digit) q ∙ e;
  joined = sym (take-append-drop n digits) ∙ (λ i. sym p i ++ sym q i);
}

cut_spells : (minus : Bool) {x digits ds r : List ℕ} → IsCut minus x digits ds r → Spells (Number minus ds) x r
cut_spells false c = number c.all (c.signed ∙ c.joined)
cut_spells true {ds = ds} {r = r} c = subst (λ z. Spells (Number true ds) z r) (sym c.signed) (minus c.all c.joined)

cut_longest : (minus : Bool) {x digits ds r : List ℕ} → IsCut minus x digits ds r → IsLongest (Number minus ds) x r
cut_longest false {x = x} {ds = ds} {r = r} c = longest_number ds x r c.all c.ends (c.signed ∙ c.joined)
cut_longest true {digits = digits} {ds = ds} {r = r} c = subst (λ z. IsLongest (Number true ds) z r) (sym c.signed) (longest_minus ds digits r c.all c.ends c.joined)

pub cut_real : (minus : Bool) {x digits ds r : List ℕ} → IsCut minus x digits ds r → begins_fraction r ≡ true → IsFault Real x x
cut_real m c f = real (cut_spells m c) f

pub cut_range : (minus : Bool) {x digits ds r : List ℕ} → IsCut minus x digits ds r → begins_fraction r ≡ false → is_in_range minus ds ≡ false → IsFault IntRange x x
cut_range m c f i = int_range (cut_longest m c) f i

pub cut_token : (minus : Bool) {x digits ds r : List ℕ} → IsCut minus x digits ds r → begins_fraction r ≡ false → is_in_range minus ds ≡ true → IsToken (Number minus ds) x r
cut_token false {x = x} {ds = ds} {r = r} c f i = number_token ds x r c.all c.ends (c.signed ∙ c.joined) i f
cut_token true {digits = digits} {ds = ds} {r = r} c f i = subst (λ z. IsToken (Number true ds) z r) (sym c.signed) (minus_token ds digits r c.all c.ends c.joined i f)

longer_of : {j : ℕ} (x r key s : List ℕ) → length key ≡ 2 → x ≡ key ++ r → Spells (Mark j) x s → length r ≤ length s
longer_of {j = j} x r key s l e (mark other p f) =
    let n = key_length other (symbol_is_key j other p) in
    let a = ap length e in
    let b = ap length f in
    omega (arith, length-append key r, length-append other s)

shorter_of : {j : ℕ} (x r key s : List ℕ) → ((j : ℕ) (other s : List ℕ) → length other ≡ 2 → position (λ t. bytes_eq t other) symbols ≡ Some j → x ≡ other ++ s → ⊥) → length key ≡ 1 → x ≡ key ++ r → Spells (Mark j) x s → length r ≤ length s
shorter_of {j = j} x r key s none l e (mark [] p f) = absurd (both_ways false refl (symbol_is_key j [] p))
shorter_of {j = j} x r key s none l e (mark (b ∷ []) p f) = let a = ap length e in let g = ap length f in omega (arith, length-append key r)
shorter_of {j = j} x r key s none l e (mark (b ∷ c ∷ []) p f) = absurd (none j (b ∷ c ∷ []) s refl p f)
shorter_of {j = j} x r key s none l e (mark (b ∷ c ∷ d ∷ ks) p f) = absurd (both_ways false refl (symbol_is_key j (b ∷ c ∷ d ∷ ks) p))

-- the longer of two symbols
pub longer_symbol : (x : List ℕ) (k : ℕ) (r key : List ℕ) → length key ≡ 2 → position (λ s. bytes_eq s key) symbols ≡ Some k → x ≡ key ++ r → Spells (Mark k) x r × ((j : ℕ) (s : List ℕ) → Spells (Mark j) x s → length r ≤ length s)
longer_symbol x k r key l p e = (mark key p e, λ j s t. longer_of x r key s l e t)

-- or the shorter, where there is no longer one
pub shorter_symbol : (x : List ℕ) (k : ℕ) (r key : List ℕ) → ((j : ℕ) (other s : List ℕ) → length other ≡ 2 → position (λ t. bytes_eq t other) symbols ≡ Some j → x ≡ other ++ s → ⊥) → length key ≡ 1 → position (λ s. bytes_eq s key) symbols ≡ Some k → x ≡ key ++ r → Spells (Mark k) x r × ((j : ℕ) (s : List ℕ) → Spells (Mark j) x s → length r ≤ length s)
shorter_symbol x k r key none l p e = (mark key p e, λ j s t. shorter_of x r key s none l e t)

pub no_symbol : (x : List ℕ) → ((j : ℕ) (other s : List ℕ) → length other ≡ 2 → position (λ t. bytes_eq t other) symbols ≡ Some j → x ≡ other ++ s → ⊥) → ((j : ℕ) (other s : List ℕ) → length other ≡ 1 → position (λ t. bytes_eq t other) symbols ≡ Some j → x ≡ other ++ s → ⊥) → (j : ℕ) (s : List ℕ) → Spells (Mark j) x s → ⊥
no_symbol x two one j s (mark [] p e) = let t = symbol_is_key j [] p in both_ways false refl t
no_symbol x two one j s (mark (b ∷ []) p e) = one j (b ∷ []) s refl p e
no_symbol x two one j s (mark (b ∷ c ∷ []) p e) = two j (b ∷ c ∷ []) s refl p e
no_symbol x two one j s (mark (b ∷ c ∷ d ∷ ks) p e) = let t = symbol_is_key j (b ∷ c ∷ d ∷ ks) p in both_ways false refl t

pub pick_long : (x : List ℕ) (o : Option (ℕ × Bor (List ℕ))) → ReadsSymbolOf 2 x o → is_some o ≡ true → ReadsSymbol x o
pick_long x None h e = absurd (both_ways false refl e)
pick_long x (Some p) h e = longer_symbol x p.0 p.1.now h.0 h.1 h.2 h.3

pub pick_short : (x : List ℕ) (o q : Option (ℕ × Bor (List ℕ))) → ReadsSymbolOf 2 x o → is_some o ≡ false → ReadsSymbolOf 1 x q → ReadsSymbol x q
pick_short x (Some p) q h e g = absurd (both_ways true e refl)
pick_short x None None h e g = no_symbol x h g
pick_short x None (Some p) h e g = shorter_symbol x p.0 p.1.now g.0 h g.1 g.2 g.3
