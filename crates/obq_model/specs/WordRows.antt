-- The texts of the named keywords and symbols.
use Rattle.std.specs.Prelude.{ℕ, List, [], ◌∷◌, codes}
use Rattle.obq_base.specs.declared.tokens.TokenKind.{TokenKind}
use Rattle.obq_model.specs.Words.{kw_alias, kw_andif, kw_clone, kw_do, kw_else, kw_elsif, kw_end, kw_except, kw_exit, kw_false, kw_finally, kw_for, kw_foreach, kw_if, kw_in, kw_is, kw_isnot, kw_let, kw_loop, kw_meth, kw_of, kw_ok, kw_orif, kw_proc, kw_protected, kw_raise, kw_rec, kw_redirect, kw_serialized, kw_then, kw_to, kw_true, kw_try, kw_until, kw_var, kw_watch, sym_percent, sym_ampersand, sym_open, sym_close, sym_star, sym_plus, sym_comma, sym_minus, sym_dot, sym_slash, sym_assign, sym_semicolon, sym_less, sym_less_equal, sym_equals, sym_arrow, sym_greater, sym_greater_equal, sym_open_bracket, sym_close_bracket, sym_open_brace, sym_close_brace}

-- each named keyword, with its text
abbrev pub keyword_texts : List (List ℕ × TokenKind)
keyword_texts =
    (codes "alias", kw_alias) ∷
    (codes "andif", kw_andif) ∷
    (codes "clone", kw_clone) ∷
    (codes "do", kw_do) ∷
    (codes "else", kw_else) ∷
    (codes "elsif", kw_elsif) ∷
    (codes "end", kw_end) ∷
    (codes "except", kw_except) ∷
    (codes "exit", kw_exit) ∷
    (codes "false", kw_false) ∷
    (codes "finally", kw_finally) ∷
    (codes "for", kw_for) ∷
    (codes "foreach", kw_foreach) ∷
    (codes "if", kw_if) ∷
    (codes "in", kw_in) ∷
    (codes "is", kw_is) ∷
    (codes "isnot", kw_isnot) ∷
    (codes "let", kw_let) ∷
    (codes "loop", kw_loop) ∷
    (codes "meth", kw_meth) ∷
    (codes "of", kw_of) ∷
    (codes "ok", kw_ok) ∷
    (codes "orif", kw_orif) ∷
    (codes "proc", kw_proc) ∷
    (codes "protected", kw_protected) ∷
    (codes "raise", kw_raise) ∷
    (codes "rec", kw_rec) ∷
    (codes "redirect", kw_redirect) ∷
    (codes "serialized", kw_serialized) ∷
    (codes "then", kw_then) ∷
    (codes "to", kw_to) ∷
    (codes "true", kw_true) ∷
    (codes "try", kw_try) ∷
    (codes "until", kw_until) ∷
    (codes "var", kw_var) ∷
    (codes "watch", kw_watch) ∷ []

-- each named symbol, with its text
abbrev pub symbol_texts : List (List ℕ × TokenKind)
symbol_texts =
    (codes "%", sym_percent) ∷
    (codes "&", sym_ampersand) ∷
    (codes "(", sym_open) ∷
    (codes ")", sym_close) ∷
    (codes "*", sym_star) ∷
    (codes "+", sym_plus) ∷
    (codes ",", sym_comma) ∷
    (codes "-", sym_minus) ∷
    (codes ".", sym_dot) ∷
    (codes "/", sym_slash) ∷
    (codes ":=", sym_assign) ∷
    (codes ";", sym_semicolon) ∷
    (codes "<", sym_less) ∷
    (codes "<=", sym_less_equal) ∷
    (codes "=", sym_equals) ∷
    (codes "=>", sym_arrow) ∷
    (codes ">", sym_greater) ∷
    (codes ">=", sym_greater_equal) ∷
    (codes "[", sym_open_bracket) ∷
    (codes "]", sym_close_bracket) ∷
    (codes "{", sym_open_brace) ∷
    (codes "}", sym_close_brace) ∷ []
