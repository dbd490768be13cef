use Rattle.std.proofs.Common.{◌≤◌, length}
use Rattle.obq_base.specs.declared.limits.TheConstants.{NESTING_LIMIT}
use Rattle.obq_model.specs.Tokens.{IsRead}
use Rattle.obq_lex.proofs.lexer.lex.Given as goal

abbrev pub invariant-loop-rest : goal.invariant-loop-rest
invariant-loop-rest l = record {
  read : IsRead (length l.source) l.tokens.items 0 l.source l.depth l.rest;
  within : length l.rest ≤ length l.source;
  shallow : l.depth ≤ NESTING_LIMIT;
}

abbrev pub decreases-loop-rest : goal.decreases-loop-rest
decreases-loop-rest l = length l.rest
