-- Tokens and nodes of syntax trees, as the grammar writes them.
use Rattle.std.specs.Prelude.{ℕ, List, [], ◌∷◌}
use Rattle.obq_base.specs.declared.tokens.TokenKind.{TokenKind}
use Rattle.obq_base.specs.declared.tokens.TokenKind.TheVariants as k
use Rattle.obq_base.specs.declared.tokens.Token.{Token}
use Rattle.obq_base.specs.declared.trees.Operator.{Operator}
use Rattle.obq_base.specs.declared.trees.Block.{Block, roll-Block}
use Rattle.obq_base.specs.declared.trees.Item.{Item}
use Rattle.obq_base.specs.declared.trees.Bind.{Bind, roll-Bind}
use Rattle.obq_base.specs.declared.trees.RecBind.{RecBind, roll-RecBind}
use Rattle.obq_base.specs.declared.trees.Proc.{Proc, roll-Proc}
use Rattle.obq_base.specs.declared.trees.FieldExpr.{FieldExpr}
use Rattle.obq_base.specs.declared.trees.Expr.{Expr}
use Rattle.obq_base.specs.declared.trees.Expr.TheVariants as e
use Rattle.obq_base.specs.declared.trees.Link.{Link, roll-Link}
use Rattle.obq_base.specs.declared.trees.Suffix.{Suffix}
use Rattle.obq_base.specs.declared.trees.Arm.{Arm, roll-Arm}
use Rattle.obq_base.specs.declared.trees.Field.{Field, roll-Field}

-- a token of this kind at this place
abbrev pub token : TokenKind → ℕ → Token
token kind p = record { kind = kind; place = p }

-- the kind of the next token; past the end, the end
abbrev pub next : List Token → TokenKind
next [] = k.EndOfSource
next (t ∷ ts) = t.kind

-- the place of the next token
abbrev pub place : List Token → ℕ
place [] = 0
place (t ∷ ts) = t.place

abbrev pub block : List Item → ℕ → Block
block is p = roll-Block (record { items = is; place = p })

abbrev pub bind : List ℕ → Expr → ℕ → Bind
bind n v p = roll-Bind (record { name = n; value = v; place = p })

abbrev pub rec_bind : List ℕ → Proc → ℕ → RecBind
rec_bind n f p = roll-RecBind (record { name = n; procedure = f; place = p })

abbrev pub procedure : List (List ℕ) → Block → ℕ → Proc
procedure ns b p = roll-Proc (record { parameters = ns; body = b; place = p })

abbrev pub arm : Expr → Block → Arm
arm c b = roll-Arm (record { test = c; body = b })

abbrev pub field : List ℕ → FieldExpr → ℕ → Field
field n b p = roll-Field (record { name = n; body = b; place = p })

abbrev pub link : Operator → Expr → ℕ → Link
link o a p = roll-Link (record { operator = o; operand = a; place = p })

-- no node where there is no suffix
abbrev pub suffixed : Expr → List Suffix → Expr
suffixed h [] = h
suffixed h (s ∷ ss) = e.Suffixed h (s ∷ ss)

-- no node where there is one operand alone
abbrev pub chained : Expr → List Link → Expr
chained a [] = a
chained a (l ∷ ls) = e.Chain a (l ∷ ls)
