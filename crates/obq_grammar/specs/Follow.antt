-- Which kinds of token may stand behind an N, and which begin one. At a known kind each of these computes.
use Rattle.std.specs.Prelude.{ℕ, zero, suc, Bool, true, false, ◌==◌, ◌||◌, List, [], ◌∷◌}
use Rattle.obq_base.specs.declared.tokens.TokenKind.{TokenKind}
use Rattle.obq_base.specs.declared.tokens.TokenKind.TheVariants as k
use Rattle.obq_model.specs.Words.{kw_andif, kw_clone, kw_else, kw_elsif, kw_end, kw_except, kw_exit, kw_false, kw_finally, kw_for, kw_foreach, kw_if, kw_is, kw_isnot, kw_let, kw_loop, kw_ok, kw_orif, kw_proc, kw_raise, kw_redirect, kw_true, kw_try, kw_var, kw_watch, sym_percent, sym_ampersand, sym_open, sym_star, sym_plus, sym_comma, sym_minus, sym_dot, sym_slash, sym_semicolon, sym_less, sym_less_equal, sym_greater, sym_greater_equal, sym_open_bracket, sym_open_brace}

abbrev pub Yes : Bool → Type 0
Yes true = Unit {0}
Yes false = ⊥

abbrev pub No : Bool → Type 0
No true = ⊥
No false = Unit {0}

-- a kind is the keyword, the symbol or the end of the source that w is
abbrev pub is_word : TokenKind → TokenKind → Bool
is_word (k.Keyword a) (k.Keyword b) = a == b
is_word (k.Symbol a) (k.Symbol b) = a == b
is_word k.EndOfSource k.EndOfSource = true
is_word _ _ = false

abbrev pub among : List TokenKind → TokenKind → Bool
among [] kind = false
among (w ∷ ws) kind = is_word w kind || among ws kind

-- what goes on with a chain of suffixes
abbrev pub suffix_words : List TokenKind
suffix_words = sym_dot ∷ sym_open_bracket ∷ sym_open ∷ []

-- the operators of a level
abbrev pub operators : ℕ → List TokenKind
operators zero = sym_star ∷ sym_slash ∷ sym_percent ∷ []
operators (suc zero) = sym_plus ∷ sym_minus ∷ sym_ampersand ∷ []
operators (suc (suc zero)) = kw_is ∷ kw_isnot ∷ sym_less ∷ sym_less_equal ∷ sym_greater ∷ sym_greater_equal ∷ []
operators (suc (suc (suc zero))) = kw_andif ∷ []
operators (suc (suc (suc (suc zero)))) = kw_orif ∷ []
operators _ = []

-- what goes on with an operand of level l
abbrev pub continues : ℕ → TokenKind → Bool
continues zero kind = among suffix_words kind
continues (suc l) kind = among (operators l) kind || continues l kind

abbrev pub Anything : TokenKind → Type 0
Anything _ = Unit {0}

-- what may stand behind a selection, a chain of suffixes, an operand of level l, an expression
abbrev pub EndsDotted : TokenKind → Type 0
EndsDotted kind = No (is_word sym_open kind)

abbrev pub EndsSuffixed : TokenKind → Type 0
EndsSuffixed kind = No (among suffix_words kind)

abbrev pub EndsLevel : ℕ → TokenKind → Type 0
EndsLevel l kind = No (continues l kind)

abbrev pub EndsExpr : TokenKind → Type 0
EndsExpr kind = No (continues 5 kind)

-- behind a list with commas: one of names or procedures, one of expressions
abbrev pub EndsNames : TokenKind → Type 0
EndsNames kind = No (is_word sym_comma kind)

abbrev pub EndsArgs : TokenKind → Type 0
EndsArgs kind = No (is_word sym_comma kind || continues 5 kind)

-- what ends a block
abbrev pub closers : List TokenKind
closers = kw_elsif ∷ kw_else ∷ kw_end ∷ kw_except ∷ kw_finally ∷ k.EndOfSource ∷ []

abbrev pub EndsBlock : TokenKind → Type 0
EndsBlock kind = Yes (among closers kind)

-- behind an item
abbrev pub EndsItem : TokenKind → Type 0
EndsItem kind = Yes (among (sym_semicolon ∷ closers) kind)

-- behind the elsif parts, the except parts
abbrev pub EndsElsifs : TokenKind → Type 0
EndsElsifs kind = Yes (among (kw_else ∷ kw_end ∷ kw_except ∷ kw_finally ∷ k.EndOfSource ∷ []) kind)

abbrev pub EndsGuards : TokenKind → Type 0
EndsGuards kind = Yes (among (kw_elsif ∷ kw_else ∷ kw_end ∷ kw_finally ∷ k.EndOfSource ∷ []) kind)

abbrev pub EndsProgram : TokenKind → Type 0
EndsProgram kind = Yes (is_word k.EndOfSource kind)

-- what begins a list of names, of binds or of fields
abbrev pub BeginsName : TokenKind → Type 0
BeginsName (k.Name n) = Unit {0}
BeginsName _ = ⊥

-- what begins an expression, an item
abbrev pub begins_expr : TokenKind → Bool
begins_expr (k.Int z) = true
begins_expr (k.Text t) = true
begins_expr (k.Name n) = true
begins_expr kind = among (kw_true ∷ kw_false ∷ kw_ok ∷ kw_proc ∷ sym_open ∷ sym_open_bracket ∷ sym_open_brace ∷ kw_if ∷ kw_loop ∷ kw_exit ∷ kw_for ∷ kw_foreach ∷ kw_try ∷ kw_raise ∷ kw_watch ∷ kw_redirect ∷ kw_clone ∷ []) kind

abbrev pub BeginsExpr : TokenKind → Type 0
BeginsExpr kind = Yes (begins_expr kind)

abbrev pub BeginsItem : TokenKind → Type 0
BeginsItem kind = Yes (among (kw_let ∷ kw_var ∷ []) kind || begins_expr kind)
