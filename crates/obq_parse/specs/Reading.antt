-- What the reading of a chain, and of the rest of an expression, answers.
use Rattle.std.specs.Prelude.{ℕ, List, Result, Ok, Err}
use Rattle.std.specs.Borrow.{Bor}
use Rattle.obq_base.specs.declared.tokens.Token.{Token}
use Rattle.obq_base.specs.declared.trees.Expr.{Expr}
use Rattle.obq_model.specs.Nodes.{next}
use Rattle.obq_model.specs.Grammar.{IsExpr, IsLevel, IsSuffixed}
use Rattle.obq_grammar.specs.Fails.{Fails}
use Rattle.obq_grammar.specs.Follow.{EndsExpr, EndsSuffixed}
use Rattle.obq_grammar.specs.Parts.{IsChain, IsRest}
use Rattle.obq_parts.specs.Reads.{Faulty}
use Rattle.obq_parts.specs.declared.steps.Refused.{Refused}
use Rattle.obq_parts.specs.declared.targets.Chain.{Chain}

abbrev pub ReadsChain : List Token → Result (Chain × Bor (List Token)) Refused → Type 0
ReadsChain x (Ok p) = IsSuffixed p.0.head p.0.suffixes x p.1.now × EndsSuffixed (next p.1.now)
ReadsChain x (Err e) = Faulty (Fails IsChain EndsSuffixed x) e

-- behind the first operand, of level l
abbrev pub ReadsRest : ℕ → Expr → List Token → Result (Expr × Bor (List Token)) Refused → Type 0
ReadsRest l first x (Ok p) = ((w : List Token) → IsLevel l first w x → IsExpr p.0 w p.1.now) × EndsExpr (next p.1.now)
ReadsRest l first x (Err e) = Faulty (Fails (IsRest l) EndsExpr x) e
