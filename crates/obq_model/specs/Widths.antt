-- How many bytes of a source its tokens take at least.
use Rattle.std.specs.Prelude.{◌+◌, ℕ, List, length, sum_by}
use Rattle.obq_base.specs.declared.tokens.Token.{Token}
use Rattle.obq_base.specs.declared.tokens.TokenKind.{TokenKind}
use Rattle.obq_base.specs.declared.tokens.TokenKind.TheVariants as t

-- the least number of bytes of a token: an integer has a digit, a text its two marks, and the end token takes none
abbrev pub width : TokenKind → ℕ
width (t.Name w) = length w
width (t.Int n) = 1
width (t.Text v) = length v + 2
width (t.Keyword k) = 1
width (t.Symbol k) = 1
width t.EndOfSource = 0

abbrev pub width_of : List Token → ℕ
width_of ts = sum_by (λ t. width t.kind) ts
