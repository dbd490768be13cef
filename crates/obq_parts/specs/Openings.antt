-- The words that open an expression of several parts, and those that are one alone.
use Rattle.std.specs.Prelude.{ℕ, List, [], ◌∷◌, Option, Some, None}
use Rattle.obq_base.specs.declared.tokens.TokenKind.{TokenKind}
use Rattle.obq_base.specs.declared.tokens.TokenKind.TheVariants as k
use Rattle.obq_base.specs.declared.tokens.Token.{Token}
use Rattle.obq_base.specs.declared.trees.Expr.{Expr}
use Rattle.obq_model.specs.Nodes.{token}
use Rattle.obq_model.specs.Grammar.{IsPrim}
use Rattle.obq_grammar.specs.Follow.{among, No}
use Rattle.obq_model.specs.Words.{kw_clone, kw_exit, kw_false, kw_ok, kw_true, kw_for, kw_foreach, kw_if, kw_loop, kw_proc, kw_raise, kw_redirect, kw_try, kw_watch, sym_open, sym_open_bracket, sym_open_brace}
use Rattle.obq_parts.specs.declared.openings.Opening.{Opening}
use Rattle.obq_parts.specs.declared.openings.Opening.TheVariants as o

abbrev pub opening_kind : Opening → TokenKind
opening_kind o.Clone = kw_clone
opening_kind o.For = kw_for
opening_kind o.Foreach = kw_foreach
opening_kind o.If = kw_if
opening_kind o.Loop = kw_loop
opening_kind o.Procedure = kw_proc
opening_kind o.Raise = kw_raise
opening_kind o.Redirect = kw_redirect
opening_kind o.Try = kw_try
opening_kind o.Watch = kw_watch
opening_kind o.Paren = sym_open
opening_kind o.Bracket = sym_open_bracket
opening_kind o.Brace = sym_open_brace

abbrev pub openings : List TokenKind
openings = kw_clone ∷ kw_for ∷ kw_foreach ∷ kw_if ∷ kw_loop ∷ kw_proc ∷ kw_raise ∷ kw_redirect ∷ kw_try ∷ kw_watch ∷ sym_open ∷ sym_open_bracket ∷ sym_open_brace ∷ []

abbrev pub literals : List TokenKind
literals = kw_true ∷ kw_false ∷ kw_ok ∷ kw_exit ∷ []

abbrev pub IsWordLiteral : ℕ → ℕ → Option Expr → Type 0
IsWordLiteral row p (Some v) = (r : List Token) → IsPrim v (token (k.Keyword row) p ∷ r) r
IsWordLiteral row p None = No (among literals (k.Keyword row))
