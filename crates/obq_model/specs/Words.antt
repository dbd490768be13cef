-- The tokens of the keywords and of the symbols by name.
use Rattle.std.specs.Prelude.{ℕ}
use Rattle.obq_base.specs.declared.tokens.TokenKind.{TokenKind}
use Rattle.obq_base.specs.declared.tokens.TokenKind.TheVariants.{Keyword, Symbol}
use Rattle.obq_tables.specs.declared.rows.TheConstants.{KW_ALIAS, KW_ANDIF, KW_CLONE, KW_DO, KW_ELSE, KW_ELSIF, KW_END, KW_EXCEPT, KW_EXIT, KW_FALSE, KW_FINALLY, KW_FOR, KW_FOREACH, KW_IF, KW_IN, KW_IS, KW_ISNOT, KW_LET, KW_LOOP, KW_METH, KW_OF, KW_OK, KW_ORIF, KW_PROC, KW_PROTECTED, KW_RAISE, KW_REC, KW_REDIRECT, KW_SERIALIZED, KW_THEN, KW_TO, KW_TRUE, KW_TRY, KW_UNTIL, KW_VAR, KW_WATCH, SYM_PERCENT, SYM_AMPERSAND, SYM_OPEN, SYM_CLOSE, SYM_STAR, SYM_PLUS, SYM_COMMA, SYM_MINUS, SYM_DOT, SYM_SLASH, SYM_ASSIGN, SYM_SEMICOLON, SYM_LESS, SYM_LESS_EQUAL, SYM_EQUALS, SYM_ARROW, SYM_GREATER, SYM_GREATER_EQUAL, SYM_OPEN_BRACKET, SYM_CLOSE_BRACKET, SYM_OPEN_BRACE, SYM_CLOSE_BRACE}

abbrev pub kw_alias : TokenKind
kw_alias = Keyword KW_ALIAS

abbrev pub kw_andif : TokenKind
kw_andif = Keyword KW_ANDIF

abbrev pub kw_clone : TokenKind
kw_clone = Keyword KW_CLONE

abbrev pub kw_do : TokenKind
kw_do = Keyword KW_DO

abbrev pub kw_else : TokenKind
kw_else = Keyword KW_ELSE

abbrev pub kw_elsif : TokenKind
kw_elsif = Keyword KW_ELSIF

abbrev pub kw_end : TokenKind
kw_end = Keyword KW_END

abbrev pub kw_except : TokenKind
kw_except = Keyword KW_EXCEPT

abbrev pub kw_exit : TokenKind
kw_exit = Keyword KW_EXIT

abbrev pub kw_false : TokenKind
kw_false = Keyword KW_FALSE

abbrev pub kw_finally : TokenKind
kw_finally = Keyword KW_FINALLY

abbrev pub kw_for : TokenKind
kw_for = Keyword KW_FOR

abbrev pub kw_foreach : TokenKind
kw_foreach = Keyword KW_FOREACH

abbrev pub kw_if : TokenKind
kw_if = Keyword KW_IF

abbrev pub kw_in : TokenKind
kw_in = Keyword KW_IN

abbrev pub kw_is : TokenKind
kw_is = Keyword KW_IS

abbrev pub kw_isnot : TokenKind
kw_isnot = Keyword KW_ISNOT

abbrev pub kw_let : TokenKind
kw_let = Keyword KW_LET

abbrev pub kw_loop : TokenKind
kw_loop = Keyword KW_LOOP

abbrev pub kw_meth : TokenKind
kw_meth = Keyword KW_METH

abbrev pub kw_of : TokenKind
kw_of = Keyword KW_OF

abbrev pub kw_ok : TokenKind
kw_ok = Keyword KW_OK

abbrev pub kw_orif : TokenKind
kw_orif = Keyword KW_ORIF

abbrev pub kw_proc : TokenKind
kw_proc = Keyword KW_PROC

abbrev pub row_protected : ℕ
row_protected = KW_PROTECTED

abbrev pub kw_protected : TokenKind
kw_protected = Keyword row_protected

abbrev pub kw_raise : TokenKind
kw_raise = Keyword KW_RAISE

abbrev pub kw_rec : TokenKind
kw_rec = Keyword KW_REC

abbrev pub kw_redirect : TokenKind
kw_redirect = Keyword KW_REDIRECT

abbrev pub row_serialized : ℕ
row_serialized = KW_SERIALIZED

abbrev pub kw_serialized : TokenKind
kw_serialized = Keyword row_serialized

abbrev pub kw_then : TokenKind
kw_then = Keyword KW_THEN

abbrev pub kw_to : TokenKind
kw_to = Keyword KW_TO

abbrev pub kw_true : TokenKind
kw_true = Keyword KW_TRUE

abbrev pub kw_try : TokenKind
kw_try = Keyword KW_TRY

abbrev pub kw_until : TokenKind
kw_until = Keyword KW_UNTIL

abbrev pub kw_var : TokenKind
kw_var = Keyword KW_VAR

abbrev pub kw_watch : TokenKind
kw_watch = Keyword KW_WATCH

-- %
abbrev pub sym_percent : TokenKind
sym_percent = Symbol SYM_PERCENT

-- &
abbrev pub sym_ampersand : TokenKind
sym_ampersand = Symbol SYM_AMPERSAND

-- (
abbrev pub sym_open : TokenKind
sym_open = Symbol SYM_OPEN

-- )
abbrev pub sym_close : TokenKind
sym_close = Symbol SYM_CLOSE

-- *
abbrev pub sym_star : TokenKind
sym_star = Symbol SYM_STAR

-- +
abbrev pub sym_plus : TokenKind
sym_plus = Symbol SYM_PLUS

-- ,
abbrev pub sym_comma : TokenKind
sym_comma = Symbol SYM_COMMA

-- -
abbrev pub sym_minus : TokenKind
sym_minus = Symbol SYM_MINUS

-- .
abbrev pub sym_dot : TokenKind
sym_dot = Symbol SYM_DOT

-- /
abbrev pub sym_slash : TokenKind
sym_slash = Symbol SYM_SLASH

-- :=
abbrev pub sym_assign : TokenKind
sym_assign = Symbol SYM_ASSIGN

-- ;
abbrev pub sym_semicolon : TokenKind
sym_semicolon = Symbol SYM_SEMICOLON

-- <
abbrev pub sym_less : TokenKind
sym_less = Symbol SYM_LESS

-- <=
abbrev pub sym_less_equal : TokenKind
sym_less_equal = Symbol SYM_LESS_EQUAL

-- =
abbrev pub sym_equals : TokenKind
sym_equals = Symbol SYM_EQUALS

-- =>
abbrev pub sym_arrow : TokenKind
sym_arrow = Symbol SYM_ARROW

-- >
abbrev pub sym_greater : TokenKind
sym_greater = Symbol SYM_GREATER

-- >=
abbrev pub sym_greater_equal : TokenKind
sym_greater_equal = Symbol SYM_GREATER_EQUAL

-- [
abbrev pub sym_open_bracket : TokenKind
sym_open_bracket = Symbol SYM_OPEN_BRACKET

-- ]
abbrev pub sym_close_bracket : TokenKind
sym_close_bracket = Symbol SYM_CLOSE_BRACKET

-- {
abbrev pub sym_open_brace : TokenKind
sym_open_brace = Symbol SYM_OPEN_BRACE

-- }
abbrev pub sym_close_brace : TokenKind
sym_close_brace = Symbol SYM_CLOSE_BRACE
