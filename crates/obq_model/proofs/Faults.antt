-- At most one fault stands at a place, and none where a piece can be read.
use Rattle.std.proofs.Common.{◌≡◌, ◌⊎◌, inl, inr, ℕ, ◌<◌, ◌≤◌, Bool, true, false, ◌&&◌, ◌==◌, cond, nat_le, List, [], ◌∷◌, ◌++◌, length, Some, refl, sym, ap, ◌∙◌, arith, subst, append_assoc, length-append}
use Rattle.std.specs.Prelude.{position}
use Rattle.std.specs.Str.{bytes_eq}
use Rattle.obq_base.specs.declared.limits.TheConstants.{TEXT_LIMIT}
use Rattle.obq_tables.specs.Tables.{symbols}
use Rattle.std.specs.List.{list_all}
use Rattle.std.specs.Char.{is_ascii_alphabetic, is_ascii_digit}
use Rattle.std.proofs.lemmas.Bool.{and_parts, and_from, both_ways, cases_Bool, le-leb, lt-leb, ne_eqb}
use Rattle.std.proofs.lemmas.Bool.Decides.{nat_tests}
use Rattle.std.proofs.lemmas.List.Folds.{list_all-append}
use Rattle.obq_base.specs.declared.faults.LexKind.{LexKind}
use Rattle.obq_base.specs.declared.faults.LexKind.TheVariants.{Stray, OpenText, LongText, OpenComment, BadEscape, IntRange, Real, NotAscii}
use Rattle.obq_model.specs.Tokens.{IsContent, Lexeme, Word, Number, Literal, Mark, Spells, word, number, minus, literal, mark, IsLongest, comment, IsBlank, white, remark, IsFault, high, high_in_text, high_in_comment, real, int_range, open_line, open_end, long_text, bad_escape, open_comment, stray_in_text, stray, IsToken, IsSound, are_digits, is_white, is_plain, begins, begins_fraction, is_in_range}
use Rattle.obq_model.proofs.Spellings.{is_sign, Starts, starts, start_of, letter_digit, letter_sign, digit_sign}
use Rattle.obq_model.proofs.Contents.{begins_content, meets, content_unique}
use Rattle.obq_model.proofs.Comments.{Outcome, Closed, Ends, High, scan, closed_scan, open_scan, high_scan}

-- the fault of a text that stops at s, and its place
abbrev pub text_verdict : List ℕ → List ℕ → LexKind × List ℕ
text_verdict x [] = (OpenText, 34 ∷ x)
text_verdict x (b ∷ s) = cond (b == 10) (OpenText, 34 ∷ x) (cond (nat_le 128 b) (NotAscii, b ∷ s) (cond (b == 92) (BadEscape, b ∷ s) (Stray, b ∷ s)))

-- a fault in a text, behind its opening mark
pub data TextRow (x : List ℕ) : LexKind → List ℕ → Type 0 where
  stops : {k : LexKind} {v s z : List ℕ} → IsContent v x s → length v ≤ TEXT_LIMIT → begins_content s ≡ false → begins (λ b. b == 34) s ≡ false → text_verdict x s ≡ (k, z) → TextRow x k z
  passes : {v s : List ℕ} → IsContent v x s → length v ≡ 65537 → TextRow x LongText (34 ∷ x)

-- a fault of an integer
pub data NumberRow (x : List ℕ) : LexKind → Type 0 where
  numbers : {k : LexKind} {m : Bool} {ds r : List ℕ} → Spells (Number m ds) x r → begins is_ascii_digit r ≡ false → k ≡ cond (begins_fraction r) Real IntRange → (begins_fraction r ≡ false → is_in_range m ds ≡ false) → NumberRow x k

-- the faults by what stands there
pub data View : LexKind → List ℕ → List ℕ → Type 0 where
  text_view : {k : LexKind} {x z : List ℕ} → TextRow x k z → View k (34 ∷ x) z
  far_view : {x z : List ℕ} → scan x 0 ≡ High z → View NotAscii (40 ∷ 42 ∷ x) z
  open_view : {x : List ℕ} → scan x 0 ≡ Ends → View OpenComment (40 ∷ 42 ∷ x) (40 ∷ 42 ∷ x)
  number_view : {k : LexKind} {x : List ℕ} → NumberRow x k → View k x x
  high_view : {b : ℕ} {x : List ℕ} → 128 ≤ b → View NotAscii (b ∷ x) (b ∷ x)
  stray_view : {b : ℕ} {x : List ℕ} → b < 128 → is_white b ≡ false → (b ≡ 34 → ⊥) → ((m : Lexeme) (s : List ℕ) → Spells m (b ∷ x) s → ⊥) → View Stray (b ∷ x) (b ∷ x)

high_plain : (b : ℕ) → 128 ≤ b → is_plain b ≡ false
high_plain b h = grind (arith, nat_tests)

high_content : (b : ℕ) (z : List ℕ) → 128 ≤ b → begins_content (b ∷ z) ≡ false
high_content b z h = rw (high_plain b h, ne_eqb b 92 (λ e. omega arith)) refl

high_verdict : (b : ℕ) (x z : List ℕ) → 128 ≤ b → text_verdict x (b ∷ z) ≡ (NotAscii, b ∷ z)
high_verdict b x z h = rw (ne_eqb b 10 (λ e. omega arith), le-leb 128 b h) refl

stray_content : (b : ℕ) (z : List ℕ) → is_plain b ≡ false → (b ≡ 92 → ⊥) → begins_content (b ∷ z) ≡ false
stray_content b z p n = rw (p, ne_eqb b 92 n) refl

stray_verdict : (b : ℕ) (x z : List ℕ) → b < 128 → (b ≡ 10 → ⊥) → (b ≡ 92 → ⊥) → text_verdict x (b ∷ z) ≡ (Stray, b ∷ z)
stray_verdict b x z l i n = rw (ne_eqb b 10 i, lt-leb 128 b l, ne_eqb b 92 n) refl

fraction_ends : (r : List ℕ) → begins_fraction r ≡ true → begins is_ascii_digit r ≡ false
fraction_ends [] h = refl
fraction_ends (b ∷ []) h = cc
fraction_ends (b ∷ c ∷ r) h = let e : (b == 46) ≡ true = (and_parts (b == 46) (is_ascii_digit c) h).0 in grind (arith, nat_tests)

more_digits : (ds : List ℕ) (d : ℕ) → are_digits ds ≡ true → is_ascii_digit d ≡ true → are_digits (ds ++ d ∷ []) ≡ true
more_digits [] d h e = cc
more_digits (b ∷ bs) d h e =
    let q = and_parts (is_ascii_digit b) (list_all is_ascii_digit bs) h in
    and_from (is_ascii_digit b) (list_all is_ascii_digit (bs ++ d ∷ [])) q.0 (list_all-append is_ascii_digit bs (d ∷ []) ∙ and_from (list_all is_ascii_digit bs) (is_ascii_digit d && true) q.1 (and_from (is_ascii_digit d) true e refl))

one_more : {m : Bool} {ds x r : List ℕ} (d : ℕ) → is_ascii_digit d ≡ true → Spells (Number m ds) x (d ∷ r) → Spells (Number m (ds ++ d ∷ [])) x r
one_more {ds = ds} {r = r} d e (number h f) = number (more_digits ds d h e) (f ∙ sym (append_assoc ds (d ∷ []) r))
one_more {ds = ds} {r = r} d e (minus h f) = minus (more_digits ds d h e) (f ∙ sym (append_assoc ds (d ∷ []) r))

-- the longest integer has all its digits
digits_end : {m : Bool} {ds x : List ℕ} (r : List ℕ) → IsLongest (Number m ds) x r → begins is_ascii_digit r ≡ false
digits_end [] l = refl
digits_end {m = m} {ds = ds} (d ∷ r) l =
    elim (cases_Bool (is_ascii_digit d)) [ inl e ↦ absurd (let n = l.longest (Number m (ds ++ d ∷ [])) r (one_more d e l.spelled) in omega arith) | inr e ↦ e ]

pub view : {k : LexKind} {x z : List ℕ} → IsFault k x z → View k x z
view (high h) = high_view h
view (high_in_text {b = b} {x = x} {z = z} g l h) = text_view (stops g l (high_content b z h) (ne_eqb b 34 (λ e. omega arith)) (high_verdict b x z h))
view (high_in_comment g h) = far_view (high_scan g h)
view (real {r = r} s f) = number_view (numbers s (fraction_ends r f) (rw f refl) (λ e. absurd (both_ways (begins_fraction r) e f)))
view (int_range {r = r} l f i) = number_view (numbers l.spelled (digits_end r l) (rw f refl) (λ e. i))
view (open_line g l) = text_view (stops g l refl refl refl)
view (open_end g l) = text_view (stops g l refl refl refl)
view (long_text g l) = text_view (passes g l)
view (bad_escape g l h) = text_view (stops g l h refl refl)
view (open_comment g) = open_view (open_scan g)
view (stray_in_text {b = b} {x = x} {z = z} g l h p i j n) = text_view (stops g l (stray_content b z p n) (ne_eqb b 34 j) (stray_verdict b x z h i n))
view (stray h w n s) = stray_view h w n s

too_long : {u v x s z : List ℕ} → IsContent v x s → length v ≤ TEXT_LIMIT → begins_content s ≡ false → IsContent u x z → length u ≡ 65537 → ⊥
too_long {u = u} g l n h m = let q = meets h g n in let e = ap length q.2 in omega (arith, length-append u q.0)

same_pair : {j k : LexKind} {y z : List ℕ} {p q : LexKind × List ℕ} → p ≡ (j, y) → p ≡ q → q ≡ (k, z) → (j ≡ k) × (y ≡ z)
same_pair a b c = let e = sym a ∙ b ∙ c in (ap (λ p. p.0) e, ap (λ p. p.1) e)

same_text : {j k : LexKind} {x y z : List ℕ} → TextRow x j y → TextRow x k z → (j ≡ k) × (y ≡ z)
same_text {x = x} (stops g l n o e) (stops h m p q f) = same_pair e (ap (text_verdict x) (content_unique g n h p).1) f
same_text (stops g l n o e) (passes h m) = absurd (too_long g l n h m)
same_text (passes h m) (stops g l n o e) = absurd (too_long g l n h m)
same_text (passes h m) (passes g l) = (refl, refl)

run_same : (p : ℕ → Bool) (w v r s : List ℕ) → list_all p w ≡ true → list_all p v ≡ true → begins p r ≡ false → begins p s ≡ false → w ++ r ≡ v ++ s → (w ≡ v) × (r ≡ s)
run_same p [] [] r s a b m n e = (refl, e)
run_same p [] (c ∷ v) r s a b m n e = absurd (both_ways (p c) (ap (begins p) (sym e) ∙ m) (and_parts (p c) (list_all p v) b).0)
run_same p (c ∷ w) [] r s a b m n e = absurd (both_ways (p c) (ap (begins p) e ∙ n) (and_parts (p c) (list_all p w) a).0)
run_same p (b ∷ w) (c ∷ v) r s a d m n e =
    let t : w ++ r ≡ v ++ s = cc in
    let h : b ≡ c = cc in
    let q = run_same p w v r s (and_parts (p b) (list_all p w) a).1 (and_parts (p c) (list_all p v) d).1 m n t in
    (ap (λ z. z ∷ w) h ∙ ap (λ z. c ∷ z) q.0, q.1)

digit_bytes : (ds : List ℕ) → are_digits ds ≡ true → list_all is_ascii_digit ds ≡ true
digit_bytes [] h = absurd (both_ways false refl h)
digit_bytes (b ∷ bs) h = h

no_minus : (ds r x : List ℕ) → are_digits ds ≡ true → 126 ∷ x ≡ ds ++ r → ⊥
no_minus [] r x h e = both_ways false refl h
no_minus (d ∷ ds) r x h e =
    let same : d ≡ 126 = cc in
    both_ways (is_ascii_digit d) (ap is_ascii_digit same) (and_parts (is_ascii_digit d) (list_all is_ascii_digit ds) h).0

pub record SameNumber (m n : Bool) (ds es r s : List ℕ) : Type 0 where
  pub sign : m ≡ n
  pub digits : ds ≡ es
  pub rest : r ≡ s

number_same : {m n : Bool} {ds es x r s : List ℕ} → Spells (Number m ds) x r → begins is_ascii_digit r ≡ false → Spells (Number n es) x s → begins is_ascii_digit s ≡ false → SameNumber m n ds es r s
number_same {ds = ds} {es = es} {r = r} {s = s} (number h e) a (number g f) b = let q = run_same is_ascii_digit ds es r s (digit_bytes ds h) (digit_bytes es g) a b (sym e ∙ f) in record { sign = refl; digits = q.0; rest = q.1 }
number_same {ds = ds} {r = r} (number h e) a (minus {x = x} g f) b = absurd (no_minus ds r x h e)
number_same {es = es} {s = s} (minus {x = x} h e) a (number g f) b = absurd (no_minus es s x g f)
number_same {ds = ds} {es = es} {r = r} {s = s} (minus h e) a (minus g f) b = let q = run_same is_ascii_digit ds es r s (digit_bytes ds h) (digit_bytes es g) a b (sym e ∙ f) in record { sign = refl; digits = q.0; rest = q.1 }

same_number : {j k : LexKind} {x : List ℕ} → NumberRow x j → NumberRow x k → j ≡ k
same_number (numbers s a e i) (numbers t b f j) = let q = number_same s a t b in e ∙ ap (λ r. cond (begins_fraction r) Real IntRange) q.rest ∙ sym f

digit_first : (b : ℕ) (ds r : List ℕ) {x : List ℕ} → are_digits ds ≡ true → b ∷ x ≡ ds ++ r → is_ascii_digit b ≡ true
digit_first b [] r h e = absurd (both_ways false refl h)
digit_first b (d ∷ ds) r h e =
    let same : d ≡ b = cc in
    ap is_ascii_digit (sym same) ∙ (and_parts (is_ascii_digit d) (list_all is_ascii_digit ds) h).0

-- an integer begins with a digit or `~`
first_of_number : {b : ℕ} {m : Bool} {ds x r : List ℕ} → Spells (Number m ds) (b ∷ x) r → (is_ascii_digit b ≡ true) ⊎ (b ≡ 126)
first_of_number {b = b} {ds = ds} {r = r} (number h e) = inl (digit_first b ds r h e)
first_of_number (minus h e) = inr refl

number_at : {k : LexKind} {b : ℕ} {x : List ℕ} → NumberRow (b ∷ x) k → (is_ascii_digit b ≡ true) ⊎ (b ≡ 126)
number_at (numbers s a e i) = first_of_number s

no_number : {k : LexKind} (b : ℕ) {x : List ℕ} → is_ascii_digit b ≡ false → (b ≡ 126 → ⊥) → NumberRow (b ∷ x) k → ⊥
no_number b n m row = elim (number_at row) [ inl e ↦ both_ways (is_ascii_digit b) n e | inr e ↦ m e ]

high_digit : (b : ℕ) → 128 ≤ b → is_ascii_digit b ≡ false
high_digit b h = grind (arith, nat_tests)

bracket : (x : List ℕ) → Spells (Mark 2) (40 ∷ x) x
bracket x = mark (40 ∷ []) refl refl

row_spells : {k : LexKind} {x : List ℕ} → NumberRow x k → ((m : Lexeme) (s : List ℕ) → Spells m x s → ⊥) → ⊥
row_spells (numbers {m = m} {ds = ds} {r = r} s a e i) n = n (Number m ds) r s

ends_high : {o : Outcome} {z : List ℕ} → o ≡ High z → o ≡ Ends → ⊥
ends_high e f = cc

closed_high : {o : Outcome} {r z : List ℕ} → o ≡ Closed r → o ≡ High z → ⊥
closed_high e f = cc

closed_ends : {o : Outcome} {r : List ℕ} → o ≡ Closed r → o ≡ Ends → ⊥
closed_ends e f = cc

pub same_view : {j k : LexKind} {x y z : List ℕ} → View j x y → View k x z → (j ≡ k) × (y ≡ z)
same_view (text_view r) (text_view s) = same_text r s
same_view (text_view r) (number_view s) = absurd (no_number 34 refl (λ e. omega arith) s)
same_view (text_view r) (high_view h) = absurd (omega arith)
same_view (text_view r) (stray_view h w n s) = absurd (n refl)
same_view (far_view e) (far_view f) = (refl, cc)
same_view (far_view e) (open_view f) = absurd (ends_high e f)
same_view (far_view e) (number_view s) = absurd (no_number 40 refl (λ e. omega arith) s)
same_view (far_view e) (high_view h) = absurd (omega arith)
same_view (far_view {x = x} e) (stray_view h w n s) = absurd (s (Mark 2) (42 ∷ x) (bracket (42 ∷ x)))
same_view (open_view e) (far_view f) = absurd (ends_high f e)
same_view (open_view e) (open_view f) = (refl, refl)
same_view (open_view e) (number_view s) = absurd (no_number 40 refl (λ e. omega arith) s)
same_view (open_view e) (high_view h) = absurd (omega arith)
same_view (open_view {x = x} e) (stray_view h w n s) = absurd (s (Mark 2) (42 ∷ x) (bracket (42 ∷ x)))
same_view (number_view s) (text_view r) = absurd (no_number 34 refl (λ e. omega arith) s)
same_view (number_view s) (far_view e) = absurd (no_number 40 refl (λ e. omega arith) s)
same_view (number_view s) (open_view e) = absurd (no_number 40 refl (λ e. omega arith) s)
same_view (number_view r) (number_view s) = (same_number r s, refl)
same_view (number_view r) (high_view {b = b} h) = absurd (no_number b (high_digit b h) (λ e. omega arith) r)
same_view (number_view r) (stray_view h w n s) = absurd (row_spells r s)
same_view (high_view h) (text_view r) = absurd (omega arith)
same_view (high_view h) (far_view e) = absurd (omega arith)
same_view (high_view h) (open_view e) = absurd (omega arith)
same_view (high_view {b = b} h) (number_view r) = absurd (no_number b (high_digit b h) (λ e. omega arith) r)
same_view (high_view h) (high_view i) = (refl, refl)
same_view (high_view h) (stray_view i w n s) = absurd (omega arith)
same_view (stray_view h w n s) (text_view r) = absurd (n refl)
same_view (stray_view h w n s) (far_view {x = x} e) = absurd (s (Mark 2) (42 ∷ x) (bracket (42 ∷ x)))
same_view (stray_view h w n s) (open_view {x = x} e) = absurd (s (Mark 2) (42 ∷ x) (bracket (42 ∷ x)))
same_view (stray_view h w n s) (number_view r) = absurd (row_spells r s)
same_view (stray_view i w n s) (high_view h) = absurd (omega arith)
same_view (stray_view h w n s) (stray_view i v m t) = (refl, refl)

white_start : (l : Lexeme) (b : ℕ) → is_white b ≡ true → Starts l b → ⊥
white_start (Word w) b h s = grind (arith, nat_tests)
white_start (Number false ds) b h s = grind (arith, nat_tests)
white_start (Number true ds) b h s = grind (arith, nat_tests)
white_start (Literal v) b h s = grind (arith, nat_tests)
white_start (Mark k) b h s = grind (arith, nat_tests)

high_start : (l : Lexeme) (b : ℕ) → 128 ≤ b → Starts l b → ⊥
high_start (Word w) b h s = grind (arith, nat_tests)
high_start (Number false ds) b h s = grind (arith, nat_tests)
high_start (Number true ds) b h s = omega arith
high_start (Literal v) b h s = omega arith
high_start (Mark k) b h s = grind (arith, nat_tests)

white_digit : (b : ℕ) → is_white b ≡ true → is_ascii_digit b ≡ false
white_digit b h = grind (arith, nat_tests)

white_tilde : (b : ℕ) → is_white b ≡ true → b ≡ 126 → ⊥
white_tilde b h e = grind (arith, nat_tests)

white_high : (b : ℕ) → is_white b ≡ true → 128 ≤ b → ⊥
white_high b h e = grind (arith, nat_tests)

pub same_blank : {x r s : List ℕ} → IsBlank x r → IsBlank x s → r ≡ s
same_blank (white h) (white g) = refl
same_blank (white h) (remark (comment g)) = absurd (both_ways false refl h)
same_blank (remark (comment g)) (white h) = absurd (both_ways false refl h)
same_blank (remark (comment g)) (remark (comment h)) = let a = closed_scan g in let b = closed_scan h in cc

pub blank_token : {l : Lexeme} {x r s : List ℕ} → IsBlank x r → IsToken l x s → ⊥
blank_token {l = l} (white {b = b} h) t = white_start l b h (starts t.there.spelled)
blank_token (remark (comment g)) t = both_ways true t.outside refl

pub blank_view : {k : LexKind} {x r z : List ℕ} → IsBlank x r → View k x z → ⊥
blank_view (white h) (text_view r) = both_ways false refl h
blank_view (white h) (far_view e) = both_ways false refl h
blank_view (white h) (open_view e) = both_ways false refl h
blank_view (white {b = b} h) (number_view s) = no_number b (white_digit b h) (white_tilde b h) s
blank_view (white {b = b} h) (high_view i) = white_high b h i
blank_view (white {b = b} h) (stray_view i w n s) = both_ways (is_white b) w h
blank_view (remark (comment g)) (far_view e) = let a = closed_scan g in closed_high a e
blank_view (remark (comment g)) (open_view e) = let a = closed_scan g in closed_ends a e
blank_view (remark (comment g)) (number_view s) = no_number 40 refl (λ e. omega arith) s
blank_view (remark (comment g)) (high_view h) = omega arith
blank_view (remark (comment {x = x} g)) (stray_view h w n s) = s (Mark 2) (42 ∷ x) (bracket (42 ∷ x))

closed_text : {k : LexKind} {v x r z : List ℕ} → IsContent v x (34 ∷ r) → length v ≤ TEXT_LIMIT → TextRow x k z → ⊥
closed_text g l (stops h m n o e) = both_ways true (ap (begins (λ b. b == 34)) (content_unique g refl h n).1 ∙ o) refl
closed_text g l (passes h m) = too_long g l refl h m

token_text : {l : Lexeme} {k : LexKind} {x r z : List ℕ} → Spells l (34 ∷ x) r → IsSound l r → Starts l 34 → TextRow x k z → ⊥
token_text (word h e) s t row = both_ways false refl t
token_text (number h e) s t row = both_ways false refl t
token_text (literal g) s t row = closed_text g s row
token_text (mark key h e) s t row = both_ways false refl t

-- an integer's first byte begins nothing else
not_number : (l : Lexeme) (m : Bool) (ds : List ℕ) (b : ℕ) → Starts l b → Starts (Number m ds) b → (n : Bool) × (es : List ℕ) × (l ≡ Number n es)
not_number (Word w) false ds b s t = absurd (letter_digit b s t)
not_number (Word w) true ds b s t = absurd (both_ways (is_ascii_alphabetic b) (ap is_ascii_alphabetic t) s)
not_number (Number n es) m ds b s t = (n, es, refl)
not_number (Literal v) false ds b s t = absurd (both_ways (is_ascii_digit b) (ap is_ascii_digit s) t)
not_number (Literal v) true ds b s t = absurd (omega arith)
not_number (Mark k) false ds b s t = absurd (digit_sign b t s)
not_number (Mark k) true ds b s t = absurd (both_ways (is_sign b) (ap is_sign t) s)

number_sound : {k : LexKind} {n : Bool} {es x r : List ℕ} → IsToken (Number n es) x r → NumberRow x k → ⊥
number_sound {n = n} {es = es} {r = r} t (numbers {m = m} {ds = ds} {r = q} s a e i) =
    let same = number_same t.there.spelled (digits_end r t.there) s a in
    let range = i (ap begins_fraction (sym same.rest) ∙ t.sound.1) in
    both_ways (is_in_range m ds) range ((λ j. is_in_range (sym same.sign j) (sym same.digits j)) ∙ t.sound.0)

token_number : {l : Lexeme} {k : LexKind} {x r : List ℕ} → IsToken l x r → NumberRow x k → ⊥
token_number {l = l} {x = x} {r = r} t (numbers {m = m} {ds = ds} {r = z} s a e i) =
    let q = start_of t.there.spelled in
    let u = starts (subst (λ y. Spells (Number m ds) y z) q.2 s) in
    let o = not_number l m ds q.0 q.3 u in
    number_sound (subst (λ (n : Lexeme). IsToken n x r) o.2 t) (numbers s a e i)

pub token_view : {l : Lexeme} {k : LexKind} {x r z : List ℕ} → IsToken l x r → View k x z → ⊥
token_view t (text_view row) = token_text t.there.spelled t.sound (starts t.there.spelled) row
token_view t (far_view e) = both_ways true t.outside refl
token_view t (open_view e) = both_ways true t.outside refl
token_view t (number_view row) = token_number t row
token_view {l = l} t (high_view {b = b} h) = high_start l b h (starts t.there.spelled)
token_view {l = l} {r = r} t (stray_view h w n s) = s l r t.there.spelled

append_same : (w v r s : List ℕ) → length r ≡ length s → w ++ r ≡ v ++ s → (w ≡ v) × (r ≡ s)
append_same [] [] r s n e = (refl, e)
append_same [] (c ∷ v) r s n e = let m = ap length e in absurd (omega (arith, length-append v s))
append_same (b ∷ w) [] r s n e = let m = ap length e in absurd (omega (arith, length-append w r))
append_same (b ∷ w) (c ∷ v) r s n e =
    let t : w ++ r ≡ v ++ s = cc in
    let h : b ≡ c = cc in
    let q = append_same w v r s n t in
    (ap (λ z. z ∷ w) h ∙ ap (λ z. c ∷ z) q.0, q.1)

same_row : (key other : List ℕ) (j k : ℕ) → key ≡ other → position (λ s. bytes_eq s key) symbols ≡ Some j → position (λ s. bytes_eq s other) symbols ≡ Some k → j ≡ k
same_row key other j k e h g = let t = sym h ∙ ap (λ z. position (λ s. bytes_eq s z) symbols) e ∙ g in cc

spelled_same : {l m : Lexeme} {b : ℕ} {x r s : List ℕ} → Spells l (b ∷ x) r → Spells m (b ∷ x) s → Starts l b → Starts m b → length r ≡ length s → (l ≡ m) × (r ≡ s)
spelled_same {r = r} {s = s} (word {w = w} h e) (word {w = v} g f) p q n = let a = append_same w v r s n (sym e ∙ f) in (ap Word a.0, a.1)
spelled_same {b = b} (word h e) (number g f) p q n = absurd (letter_digit b p q)
spelled_same (word h e) (minus g f) p q n = absurd (both_ways false refl p)
spelled_same (word h e) (literal g) p q n = absurd (both_ways false refl p)
spelled_same {b = b} (word h e) (mark key g f) p q n = absurd (letter_sign b p q)
spelled_same {b = b} (number h e) (word g f) p q n = absurd (letter_digit b q p)
spelled_same {r = r} {s = s} (number {ds = w} h e) (number {ds = v} g f) p q n = let a = append_same w v r s n (sym e ∙ f) in (ap (Number false) a.0, a.1)
spelled_same (number h e) (minus g f) p q n = absurd (both_ways false refl p)
spelled_same (number h e) (literal g) p q n = absurd (both_ways false refl p)
spelled_same {b = b} (number h e) (mark key g f) p q n = absurd (digit_sign b p q)
spelled_same (minus h e) (word g f) p q n = absurd (both_ways false refl q)
spelled_same (minus h e) (number g f) p q n = absurd (both_ways false refl q)
spelled_same {r = r} {s = s} (minus {ds = w} h e) (minus {ds = v} g f) p q n = let a = append_same w v r s n (sym e ∙ f) in (ap (Number true) a.0, a.1)
spelled_same (minus h e) (mark key g f) p q n = absurd (both_ways false refl q)
spelled_same (literal h) (word g f) p q n = absurd (both_ways false refl q)
spelled_same (literal h) (number g f) p q n = absurd (both_ways false refl q)
spelled_same (literal h) (literal g) p q n = let a = content_unique h refl g refl in (ap Literal a.0, let t = a.1 in cc)
spelled_same (literal h) (mark key g f) p q n = absurd (both_ways false refl q)
spelled_same {b = b} (mark key h e) (word g f) p q n = absurd (letter_sign b q p)
spelled_same {b = b} (mark key h e) (number g f) p q n = absurd (digit_sign b q p)
spelled_same (mark key h e) (minus g f) p q n = absurd (both_ways false refl p)
spelled_same (mark key h e) (literal g) p q n = absurd (both_ways false refl p)
spelled_same {r = r} {s = s} (mark {k = j} key h e) (mark {k = k} other g f) p q n = let a = append_same key other r s n (sym e ∙ f) in (ap Mark (same_row key other j k a.0 h g), a.1)

pub same_token : {l m : Lexeme} {x r s : List ℕ} → IsToken l x r → IsToken m x s → (l ≡ m) × (r ≡ s)
same_token {l = l} {m = m} {r = r} {s = s} t u =
    let q = start_of t.there.spelled in
    let a : length r ≤ length s = t.there.longest m s u.there.spelled in
    let b : length s ≤ length r = u.there.longest l r t.there.spelled in
    let one = subst (λ z. Spells l z r) q.2 t.there.spelled in
    let two = subst (λ z. Spells m z s) q.2 u.there.spelled in
    spelled_same one two (starts one) (starts two) (omega arith)
