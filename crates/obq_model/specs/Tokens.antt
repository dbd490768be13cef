-- The tokens of a source, and its first lexical fault: the source is cut into pieces from its start, each of them white
-- space, a comment or the longest token that stands there. What is left of a source at a place says the place.
use Rattle.std.specs.Prelude.{◌≡◌, ◌≢◌, ◌+◌, ◌-◌, ◌*◌, ◌^◌, ◌<◌, ◌≤◌, ℕ, zero, suc, ℤ, pos, negsuc, Bool, true, false, IsTrue, ◌&&◌, ◌||◌, ◌==◌, not, nat_lt, nat_le, List, [], ◌∷◌, ◌++◌, length, map, fold, position, slice_get, Option, Some, None, is_some, unwrap_or, if◌then◌else◌}
use Rattle.std.specs.List.{list_all}
use Rattle.std.specs.Str.{bytes_eq}
use Rattle.std.specs.Char.{is_ascii_alphabetic, is_ascii_digit}
use Rattle.obq_base.specs.declared.limits.TheConstants.{NESTING_LIMIT, TEXT_LIMIT}
use Rattle.obq_base.specs.declared.tokens.Token.{Token}
use Rattle.obq_base.specs.declared.tokens.TokenKind.{TokenKind}
use Rattle.obq_base.specs.declared.tokens.TokenKind.TheVariants as t
use Rattle.obq_base.specs.declared.faults.LexKind.{LexKind}
use Rattle.obq_base.specs.declared.faults.LexKind.TheVariants.{Stray, OpenText, LongText, OpenComment, BadEscape, IntRange, Real, NotAscii, TooDeep}
use Rattle.obq_tables.specs.Tables.{keywords, symbols, nesting_of}
use Rattle.obq_tables.specs.declared.nesting.Nesting.{Nesting}
use Rattle.obq_tables.specs.declared.nesting.Nesting.TheVariants.{Opens, Closes, Stays}

abbrev pub is_white : ℕ → Bool
is_white b = (b == 9) || (b == 10) || (b == 13) || (b == 32)

-- a letter, a digit or `_`
abbrev pub is_word_byte : ℕ → Bool
is_word_byte b = is_ascii_alphabetic b || is_ascii_digit b || (b == 95)

-- a byte that stands for itself in a text: 32 to 126 other than `"` and `\`
abbrev pub is_plain : ℕ → Bool
is_plain b = nat_le 32 b && nat_le b 126 && not (b == 34) && not (b == 92)

-- what `\n`, `\t`, `\"` and `\\` stand for, by the byte behind the `\`
abbrev pub escape : ℕ → Option ℕ
escape c =
    if c == 110 then Some 10
    else (if c == 116 then Some 9
    else (if c == 34 then Some 34
    else (if c == 92 then Some 92
    else None)))

-- a letter, then letters, digits and `_`
abbrev pub is_word : List ℕ → Bool
is_word [] = false
is_word (b ∷ bs) = is_ascii_alphabetic b && list_all is_word_byte bs

-- one or more digits
abbrev pub are_digits : List ℕ → Bool
are_digits [] = false
are_digits (b ∷ bs) = list_all is_ascii_digit (b ∷ bs)

-- from x up to r stand bytes and escapes of a text, which stand for the bytes v
pub data IsContent : List ℕ → List ℕ → List ℕ → Type 0 where
  nothing : {x : List ℕ} → IsContent [] x x
  plain : {b : ℕ} {v x r : List ℕ} → IsTrue (is_plain b) → IsContent v x r → IsContent (b ∷ v) (b ∷ x) r
  escaped : {c e : ℕ} {v x r : List ℕ} → escape c ≡ Some e → IsContent v x r → IsContent (e ∷ v) (92 ∷ c ∷ x) r

-- what a token is spelled from: a word, an integer with its sign and all its digits, the bytes that a text stands for, a row
-- of the table of symbols
pub data Lexeme : Type 0 where
  Word : List ℕ → Lexeme
  Number : Bool → List ℕ → Lexeme
  Literal : List ℕ → Lexeme
  Mark : ℕ → Lexeme

-- x begins with a spelling of the lexeme, and r is what is left behind it
pub data Spells : Lexeme → List ℕ → List ℕ → Type 0 where
  word : {w x r : List ℕ} → IsTrue (is_word w) → x ≡ w ++ r → Spells (Word w) x r
  number : {ds x r : List ℕ} → IsTrue (are_digits ds) → x ≡ ds ++ r → Spells (Number false ds) x r
  -- `~` is the minus
  minus : {ds x r : List ℕ} → IsTrue (are_digits ds) → x ≡ ds ++ r → Spells (Number true ds) (126 ∷ x) r
  literal : {v x r : List ℕ} → IsContent v x (34 ∷ r) → Spells (Literal v) (34 ∷ x) r
  mark : {k : ℕ} (key : List ℕ) {x r : List ℕ} → position (λ s. bytes_eq s key) symbols ≡ Some k → x ≡ key ++ r → Spells (Mark k) x r

-- no longer spelling stands there
pub record IsLongest (l : Lexeme) (x r : List ℕ) : Type 0 where
  pub spelled : Spells l x r
  pub longest : (m : Lexeme) (s : List ℕ) → Spells m x s → length r ≤ length s

-- `(*`, `*)`
abbrev pub opens_comment : List ℕ → Bool
opens_comment [] = false
opens_comment (b ∷ []) = false
opens_comment (b ∷ c ∷ x) = (b == 40) && (c == 42)

abbrev pub closes_comment : List ℕ → Bool
closes_comment [] = false
closes_comment (b ∷ []) = false
closes_comment (b ∷ c ∷ x) = (b == 42) && (c == 41)

mutual
  -- x begins with a comment, and r is what is left behind it
  pub data IsComment : List ℕ → List ℕ → Type 0 where
    comment : {x r : List ℕ} → IsInside x (42 ∷ 41 ∷ r) → IsComment (40 ∷ 42 ∷ x) r

  -- from x up to r stand whole comments and bytes that neither open nor close one
  pub data IsInside : List ℕ → List ℕ → Type 0 where
    empty : {x : List ℕ} → IsInside x x
    byte : {b : ℕ} {x r : List ℕ} → b < 128 → opens_comment (b ∷ x) ≡ false → closes_comment (b ∷ x) ≡ false → IsInside x r → IsInside (b ∷ x) r
    whole : {x y r : List ℕ} → IsComment x y → IsInside y r → IsInside x r

-- from x, which stands behind a `(*`, up to r no comment that holds x is closed: further comments may be open at r
pub data IsOpen : List ℕ → List ℕ → Type 0 where
  inside : {x r : List ℕ} → IsInside x r → IsOpen x r
  opened : {x y r : List ℕ} → IsInside x (40 ∷ 42 ∷ y) → IsOpen y r → IsOpen x r

-- a piece that is no token
pub data IsBlank : List ℕ → List ℕ → Type 0 where
  white : {b : ℕ} {x : List ℕ} → IsTrue (is_white b) → IsBlank (b ∷ x) x
  remark : {x r : List ℕ} → IsComment x r → IsBlank x r

-- the whole number that digits stand for
abbrev pub magnitude : List ℕ → ℕ
magnitude ds = fold (λ n d. 10 * n + (d - 48)) 0 ds

-- an `i64` holds it
abbrev pub is_in_range : Bool → List ℕ → Bool
is_in_range false ds = nat_lt (magnitude ds) (2 ^ 63)
is_in_range true ds = nat_le (magnitude ds) (2 ^ 63)

abbrev pub negative : ℕ → ℤ
negative zero = pos 0
negative (suc n) = negsuc n

abbrev pub integer : Bool → List ℕ → ℤ
integer false ds = pos (magnitude ds)
integer true ds = negative (magnitude ds)

-- `.` and a digit
abbrev pub begins_fraction : List ℕ → Bool
begins_fraction [] = false
begins_fraction (b ∷ []) = false
begins_fraction (b ∷ c ∷ x) = (b == 46) && is_ascii_digit c

-- the first byte passes the test
abbrev pub begins : (ℕ → Bool) → List ℕ → Bool
begins p [] = false
begins p (b ∷ x) = p b

-- an escape of a text, behind its `\`
abbrev pub begins_escape : List ℕ → Bool
begins_escape x = begins (λ c. is_some (escape c)) x

-- A fault stands at x; its place is where z is left. Nesting apart, these are all.
pub data IsFault : LexKind → List ℕ → List ℕ → Type 0 where
  high : {b : ℕ} {x : List ℕ} → 128 ≤ b → IsFault NotAscii (b ∷ x) (b ∷ x)
  high_in_text : {b : ℕ} {v x z : List ℕ} → IsContent v x (b ∷ z) → length v ≤ TEXT_LIMIT → 128 ≤ b → IsFault NotAscii (34 ∷ x) (b ∷ z)
  high_in_comment : {b : ℕ} {x z : List ℕ} → IsOpen x (b ∷ z) → 128 ≤ b → IsFault NotAscii (40 ∷ 42 ∷ x) (b ∷ z)
  real : {m : Bool} {ds x r : List ℕ} → Spells (Number m ds) x r → IsTrue (begins_fraction r) → IsFault Real x x
  int_range : {m : Bool} {ds x r : List ℕ} → IsLongest (Number m ds) x r → begins_fraction r ≡ false → is_in_range m ds ≡ false → IsFault IntRange x x
  -- byte 10, or the end of the source
  open_line : {v x z : List ℕ} → IsContent v x (10 ∷ z) → length v ≤ TEXT_LIMIT → IsFault OpenText (34 ∷ x) (34 ∷ x)
  open_end : {v x : List ℕ} → IsContent v x [] → length v ≤ TEXT_LIMIT → IsFault OpenText (34 ∷ x) (34 ∷ x)
  long_text : {v x z : List ℕ} → IsContent v x z → length v ≡ 65537 → IsFault LongText (34 ∷ x) (34 ∷ x)
  bad_escape : {v x z : List ℕ} → IsContent v x (92 ∷ z) → length v ≤ TEXT_LIMIT → begins_escape z ≡ false → IsFault BadEscape (34 ∷ x) (92 ∷ z)
  open_comment : {x : List ℕ} → IsOpen x [] → IsFault OpenComment (40 ∷ 42 ∷ x) (40 ∷ 42 ∷ x)
  -- any other byte that isn't allowed in a text
  stray_in_text : {b : ℕ} {v x z : List ℕ} → IsContent v x (b ∷ z) → length v ≤ TEXT_LIMIT → b < 128 → is_plain b ≡ false → b ≢ 10 → b ≢ 34 → b ≢ 92 → IsFault Stray (34 ∷ x) (b ∷ z)
  -- any other byte that begins no token
  stray : {b : ℕ} {x : List ℕ} → b < 128 → is_white b ≡ false → b ≢ 34 → ((m : Lexeme) (s : List ℕ) → Spells m (b ∷ x) s → ⊥) → IsFault Stray (b ∷ x) (b ∷ x)

-- no row of the fault table, nesting apart, holds of a lexeme with r behind it
abbrev pub IsSound : Lexeme → List ℕ → Type 0
IsSound (Word w) r = Unit {0}
IsSound (Number m ds) r = IsTrue (is_in_range m ds) × (begins_fraction r ≡ false)
IsSound (Literal v) r = length v ≤ TEXT_LIMIT
IsSound (Mark k) r = Unit {0}

-- a piece that is a token, and can be read
pub record IsToken (l : Lexeme) (x r : List ℕ) : Type 0 where
  pub outside : opens_comment x ≡ false
  pub there : IsLongest l x r
  pub sound : IsSound l r

-- a word is a keyword or a name
abbrev pub word_kind : List ℕ → Option ℕ → TokenKind
word_kind w None = t.Name w
word_kind w (Some k) = t.Keyword k

abbrev pub kind_of : Lexeme → TokenKind
kind_of (Word w) = word_kind w (position (λ k. bytes_eq k w) keywords)
kind_of (Number m ds) = t.Int (integer m ds)
kind_of (Literal v) = t.Text v
kind_of (Mark k) = t.Symbol k

-- what a token does to the nesting, by its row
abbrev pub token_nesting : TokenKind → Nesting
token_nesting (t.Keyword k) = unwrap_or (slice_get (map nesting_of keywords) k) Stays
token_nesting (t.Symbol k) = unwrap_or (slice_get (map nesting_of symbols) k) Stays
token_nesting _ = Stays

-- the openers less the closers so far, never below 0
abbrev pub nested : Nesting → ℕ → ℕ
nested Opens d = d + 1
nested Closes d = d - 1
nested Stays d = d

abbrev pub nested_by : Lexeme → ℕ → ℕ
nested_by l d = nested (token_nesting (kind_of l)) d

-- the place at which x is left of a source of n bytes
abbrev pub place_of : ℕ → List ℕ → ℕ
place_of n x = n - length x

abbrev pub token_at : ℕ → TokenKind → List ℕ → Token
token_at n k x = record { kind = k; place = place_of n x }

-- the end token stands at the end of the source
abbrev pub end_token : List ℕ → Token
end_token source = record { kind = t.EndOfSource; place = length source }

-- From x up to y, with the nestings d and e there, stand pieces that can be read, and their tokens are ts.
pub data IsRead (n : ℕ) : List Token → ℕ → List ℕ → ℕ → List ℕ → Type 0 where
  done : {d : ℕ} {x : List ℕ} → IsRead n [] d x d x
  blank : {ts : List Token} {d e : ℕ} {x y z : List ℕ} → IsBlank x y → IsRead n ts d y e z → IsRead n ts d x e z
  token : {l : Lexeme} {ts : List Token} {d e : ℕ} {x y z : List ℕ} → IsToken l x y → nested_by l d ≤ NESTING_LIMIT → IsRead n ts (nested_by l d) y e z → IsRead n (token_at n (kind_of l) x ∷ ts) d x e z

-- the tokens of a source that can be read whole, with the end token
pub data IsReading (source : List ℕ) : List Token → Type 0 where
  reading : {ts : List Token} {e : ℕ} → IsRead (length source) ts 0 source e [] → IsReading source (ts ++ end_token source ∷ [])

-- the first place that can't be read has this fault
pub data IsFirstFault (source : List ℕ) : LexKind → ℕ → Type 0 where
  fault : {k : LexKind} {ts : List Token} {e : ℕ} {x z : List ℕ} → IsRead (length source) ts 0 source e x → IsFault k x z → IsFirstFault source k (place_of (length source) z)
  -- an opener that would make the nesting 201
  too_deep : {l : Lexeme} {ts : List Token} {e : ℕ} {x y : List ℕ} → IsRead (length source) ts 0 source e x → IsToken l x y → NESTING_LIMIT < nested_by l e → IsFirstFault source TooDeep (place_of (length source) x)

-- the first fact for the end token, else the second
abbrev pub IfEnd : TokenKind → Type 0 → Type 0 → Type 0
IfEnd t.EndOfSource a b = a
IfEnd _ a b = b

-- one end token stands there, and it is the last
abbrev pub IsEnded : List Token → Type 0
IsEnded [] = ⊥
IsEnded (t ∷ ts) = IfEnd t.kind (ts ≡ []) (IsEnded ts)

-- The nesting, which is d before the first token, is at most 200 behind each.
abbrev pub IsShallow : ℕ → List Token → Type 0
IsShallow d [] = Unit {0}
IsShallow d (t ∷ ts) = (nested (token_nesting t.kind) d ≤ NESTING_LIMIT) × IsShallow (nested (token_nesting t.kind) d) ts

-- Each place stands before the next, the first of them from p on.
abbrev pub IsAscending : ℕ → List Token → Type 0
IsAscending p [] = Unit {0}
IsAscending p (t ∷ ts) = (p ≤ t.place) × IsAscending (t.place + 1) ts
