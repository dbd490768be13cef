-- A part and the word that closes it.
use Rattle.std.specs.Prelude.{ℕ, List, ◌∷◌, Result, Ok, Err}
use Rattle.std.specs.Borrow.{Bor}
use Rattle.obq_base.specs.declared.tokens.TokenKind.{TokenKind}
use Rattle.obq_base.specs.declared.tokens.Token.{Token}
use Rattle.obq_base.specs.declared.trees.Block.{Block}
use Rattle.obq_base.specs.declared.trees.Expr.{Expr}
use Rattle.obq_model.specs.Nodes.{next, token}
use Rattle.obq_model.specs.Words.{kw_end, sym_close}
use Rattle.obq_model.specs.Grammar.{IsBlock, IsExpr, IsNames}
use Rattle.obq_grammar.specs.Fails.{Fails}
use Rattle.obq_grammar.specs.Follow.{EndsBlock, EndsExpr, EndsNames, is_word, No}
use Rattle.obq_parts.specs.Reads.{Faulty}
use Rattle.obq_parts.specs.declared.steps.Refused.{Refused}

-- an L, and the word behind it
abbrev pub IsClosed : {A : Type 0} → (A → List Token → List Token → Type 0) → TokenKind → A → List Token → List Token → Type 0
IsClosed L w a x r = (p : ℕ) × L a x (token w p ∷ r)

-- no L stands there, or the word doesn't stand behind it
pub data CloseFails {A : Type 0} (L : A → List Token → List Token → Type 0) (S : TokenKind → Type 0) (w : TokenKind) (x z : List Token) : Type 0 where
  inside : Fails L S x z → CloseFails L S w x z
  unclosed : (a : A) → L a x z → S (next z) → No (is_word w (next z)) → CloseFails L S w x z

abbrev pub ReadsClosed : {A : Type 0} → (A → List Token → List Token → Type 0) → (TokenKind → Type 0) → TokenKind → List Token → Result (A × Bor (List Token)) Refused → Type 0
ReadsClosed L S w x (Ok p) = IsClosed L w p.0 x p.1.now
ReadsClosed L S w x (Err e) = Faulty (CloseFails L S w x) e

abbrev pub ReadsClosedNames : List Token → Result (List (List ℕ) × Bor (List Token)) Refused → Type 0
ReadsClosedNames x result = ReadsClosed IsNames EndsNames sym_close x result

abbrev pub ReadsUntil : TokenKind → List Token → Result (Expr × Bor (List Token)) Refused → Type 0
ReadsUntil w x result = ReadsClosed IsExpr EndsExpr w x result

abbrev pub ReadsBody : List Token → Result (Block × Bor (List Token)) Refused → Type 0
ReadsBody x result = ReadsClosed IsBlock EndsBlock kw_end x result
