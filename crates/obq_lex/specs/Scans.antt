-- What each part of the lexer answers, by the definition of tokens.
use Rattle.std.specs.Prelude.{◌≡◌, ◌≢◌, ◌<◌, ◌≤◌, ◌⊎◌, ◌==◌, nat_le, ℕ, ℤ, Bool, true, false, IsTrue, List, [], ◌∷◌, ◌++◌, length, position, Option, Some, None, Result, Ok, Err}
use Rattle.std.specs.Str.{bytes_eq}
use Rattle.obq_base.specs.declared.limits.TheConstants.{TEXT_LIMIT}
use Rattle.obq_tables.specs.Tables.{symbols}
use Rattle.std.specs.Borrow.{Bor}
use Rattle.std.specs.Char.{is_ascii_alphabetic, is_ascii_digit}
use Rattle.obq_base.specs.declared.faults.LexKind.{LexKind}
use Rattle.obq_model.specs.Tokens.{IsBlank, IsContent, IsFault, IsInside, IsToken, Lexeme, Mark, Spells, begins, closes_comment, integer, is_in_range, is_white, kind_of, opens_comment}
use Rattle.obq_lex.specs.declared.stops.Stop.{Stop}
use Rattle.obq_lex.specs.declared.stops.Stop.TheVariants as stop
use Rattle.obq_lex.specs.declared.comments.Inside.{Inside}
use Rattle.obq_lex.specs.declared.comments.Inside.TheVariants as inside
use Rattle.obq_lex.specs.declared.texts.InText.{InText}
use Rattle.obq_lex.specs.declared.texts.InText.TheVariants as text
use Rattle.obq_lex.specs.declared.pieces.Piece.{Piece}
use Rattle.obq_lex.specs.declared.pieces.Piece.TheVariants as piece

-- a fault of what stands at x, or want of memory
abbrev pub Fails : List ℕ → Stop → Type 0
Fails x (stop.Fault kind left) = (z : List ℕ) × IsFault kind x z × (left ≡ length z)
Fails x stop.NoMemory = Unit {0}

abbrev pub CommentStep : List ℕ → Inside → Type 0
CommentStep x (inside.Opens r) = x ≡ 40 ∷ 42 ∷ r.now
CommentStep x (inside.Closes r) = x ≡ 42 ∷ 41 ∷ r.now
CommentStep x (inside.Byte r) = (b : ℕ) × (b < 128) × (opens_comment (b ∷ r.now) ≡ false) × (closes_comment (b ∷ r.now) ≡ false) × (x ≡ b ∷ r.now)
CommentStep x inside.High = (b : ℕ) × (r : List ℕ) × (128 ≤ b) × (x ≡ b ∷ r)
CommentStep x inside.End = x ≡ []

-- x stands behind the opening mark
abbrev pub ReadsComment : List ℕ → Result (Bor (List ℕ)) Stop → Type 0
ReadsComment x (Ok r) = IsInside x (42 ∷ 41 ∷ r.now)
ReadsComment x (Err s) = Fails (40 ∷ 42 ∷ x) s

-- a text that reads up to x has this fault
abbrev pub IsRefused : LexKind → List ℕ → Type 0
IsRefused kind x = (v y : List ℕ) → IsContent v y x → length v ≤ TEXT_LIMIT → IsFault kind (34 ∷ y) x

abbrev pub TextStep : List ℕ → InText → Type 0
TextStep x (text.Byte e r) = IsContent (e ∷ []) x r.now
TextStep x (text.Closes r) = x ≡ 34 ∷ r.now
TextStep x text.Open = (x ≡ []) ⊎ ((r : List ℕ) × (x ≡ 10 ∷ r))
TextStep x (text.Refused kind) = IsRefused kind x

-- x stands behind the opening mark
abbrev pub ReadsText : List ℕ → Result (List ℕ × Bor (List ℕ)) Stop → Type 0
ReadsText x (Ok p) = IsContent p.0 x (34 ∷ p.1.now) × (length p.0 ≤ TEXT_LIMIT)
ReadsText x (Err s) = Fails (34 ∷ x) s

abbrev pub ReadsInteger : Bool → List ℕ → Option ℤ → Type 0
ReadsInteger minus ds None = is_in_range minus ds ≡ false
ReadsInteger minus ds (Some n) = IsTrue (is_in_range minus ds) × (n ≡ integer minus ds)

-- the digits stand behind the minus, if there is one
abbrev pub IsSigned : Bool → List ℕ → List ℕ → Type 0
IsSigned false x digits = x ≡ digits
IsSigned true x digits = x ≡ 126 ∷ digits

-- a symbol of so many bytes at x, if there is one
abbrev pub ReadsSymbolOf : ℕ → List ℕ → Option (ℕ × Bor (List ℕ)) → Type 0
ReadsSymbolOf n x None = (k : ℕ) (key s : List ℕ) → length key ≡ n → position (λ r. bytes_eq r key) symbols ≡ Some k → x ≡ key ++ s → ⊥
ReadsSymbolOf n x (Some p) = (key : List ℕ) × (length key ≡ n) × (position (λ r. bytes_eq r key) symbols ≡ Some p.0) × (x ≡ key ++ p.1.now)

-- the longest symbol at x, if there is one
abbrev pub ReadsSymbol : List ℕ → Option (ℕ × Bor (List ℕ)) → Type 0
ReadsSymbol x None = (k : ℕ) (s : List ℕ) → Spells (Mark k) x s → ⊥
ReadsSymbol x (Some p) = Spells (Mark p.0) x p.1.now × ((k : ℕ) (s : List ℕ) → Spells (Mark k) x s → length p.1.now ≤ length s)

-- no token but a symbol begins there, and no white space or comment
pub record BeginsNoOther (x : List ℕ) : Type 0 where
  pub there : x ≢ []
  pub low : begins (λ b. nat_le 128 b) x ≡ false
  pub not_white : begins is_white x ≡ false
  pub no_letter : begins is_ascii_alphabetic x ≡ false
  pub no_digit : begins is_ascii_digit x ≡ false
  pub no_text : begins (λ b. b == 34) x ≡ false
  pub no_minus : (y : List ℕ) → x ≡ 126 ∷ y → begins is_ascii_digit y ≡ false
  pub no_comment : opens_comment x ≡ false

-- what stands at the front of x
abbrev pub Cuts : List ℕ → Result Piece Stop → Type 0
Cuts x (Ok (piece.Blank r)) = IsBlank x r.now
Cuts x (Ok (piece.Token kind r)) = (l : Lexeme) × IsToken l x r.now × (kind ≡ kind_of l)
Cuts x (Err s) = Fails x s
