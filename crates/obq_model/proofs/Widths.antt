-- How many bytes the tokens of a source take, and how many tokens it has.
use Rattle.std.proofs.Common.{◌≡◌, ℕ, ◌+◌, ◌<◌, ◌≤◌, ◌∙◌, Option, Some, None, List, [], ◌∷◌, ◌++◌, length, ap, arith, length-append}
use Rattle.std.specs.Prelude.{position}
use Rattle.std.specs.Str.{bytes_eq}
use Rattle.std.proofs.lemmas.List.Sums.{sum_by-append, sum_by-cons}
use Rattle.obq_base.specs.declared.tokens.Token.{Token}
use Rattle.obq_tables.specs.Tables.{keywords}
use Rattle.obq_model.specs.Tokens.{Lexeme, Spells, word, number, minus, literal, mark, IsRead, done, blank, token, IsReading, reading, kind_of, word_kind, token_at, end_token}
use Rattle.obq_model.specs.Widths.{width, width_of}
use Rattle.obq_model.proofs.Contents.{content_length}
use Rattle.obq_model.proofs.Readings.{spelled_length, blank_length}

word_width : (w : List ℕ) (o : Option ℕ) (m n : ℕ) → m < n → n ≡ length w + m → m + width (word_kind w o) ≤ n
word_width w None m n l e = omega arith
word_width w (Some k) m n l e = omega arith

one_byte : {l : Lexeme} {x r : List ℕ} → Spells l x r → length r + 1 ≤ length x
one_byte s = let n = spelled_length s in omega arith

-- a spelling takes at least the width of its token
pub spelled_width : {l : Lexeme} {x r : List ℕ} → Spells l x r → length r + width (kind_of l) ≤ length x
spelled_width {x = x} (word {w = w} {r = r} h e) = word_width w (position (λ k. bytes_eq k w) keywords) (length r) (length x) (spelled_length (word h e)) (ap length e ∙ length-append w r)
spelled_width (number h e) = one_byte (number h e)
spelled_width (minus h e) = one_byte (minus h e)
spelled_width (literal g) = let n = content_length g in omega arith
spelled_width (mark key h e) = one_byte (mark key h e)

pub width_of-cons : (t : Token) (ts : List Token) → width_of (t ∷ ts) ≡ width t.kind + width_of ts
width_of-cons t ts = sum_by-cons (λ (u : Token). width u.kind) t ts

pub width_of-append : (ts us : List Token) → width_of (ts ++ us) ≡ width_of ts + width_of us
width_of-append ts us = sum_by-append (λ (t : Token). width t.kind) ts us

-- the widths of the tokens that are read from x up to y
pub read_width : {n : ℕ} {ts : List Token} {d e : ℕ} {x y : List ℕ} → IsRead n ts d x e y → length y + width_of ts ≤ length x
read_width done = omega arith
read_width (blank b r) = let m = blank_length b in let n = read_width r in omega arith
read_width {n = n} (token {l = l} {ts = ts} {x = x} t s r) = let m = spelled_width t.there.spelled in let k = read_width r in omega (arith, width_of-cons (token_at n (kind_of l) x) ts)

-- how many tokens are read from x up to y
pub read_length : {n : ℕ} {ts : List Token} {d e : ℕ} {x y : List ℕ} → IsRead n ts d x e y → length y + length ts ≤ length x
read_length done = omega arith
read_length (blank b r) = let m = blank_length b in let n = read_length r in omega arith
read_length (token t s r) = let m = spelled_length t.there.spelled in let n = read_length r in omega arith

pub reading_width : (source : List ℕ) (ts : List Token) → IsReading source ts → width_of ts ≤ length source
reading_width source ts (reading {ts = us} g) = let m = read_width g in omega (arith, width_of-append us (end_token source ∷ []), width_of-cons (end_token source) [])

pub reading_length : (source : List ℕ) (ts : List Token) → IsReading source ts → length ts ≤ length source + 1
reading_length source ts (reading {ts = us} g) = let m = read_length g in omega (arith, length-append us (end_token source ∷ []))
