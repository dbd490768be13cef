use Rattle.obq_base.specs.declared.tokens.TokenKind.TheVariants as k
use Rattle.obq_model.specs.Grammar.{is, isnot, andif, orif}
use Rattle.obq_parts.proofs.Rows.{at_row}
use Rattle.obq_parts.proofs.operators.keyword_operator.Goals as goal

pub returns-in-2-eq15 : goal.returns-in-2-eq15
returns-in-2-eq15 c = at_row (λ r. k.Keyword r) c.in-2-eq15.is-0 c.in-2-eq15.is-1 is

pub returns-in-2-eq16 : goal.returns-in-2-eq16
returns-in-2-eq16 c = at_row (λ r. k.Keyword r) c.in-2-eq16.is-0 c.in-2-eq16.is-1 isnot

pub returns-in-3-eq1 : goal.returns-in-3-eq1
returns-in-3-eq1 c = at_row (λ r. k.Keyword r) c.in-3-eq1.is-0 c.in-3-eq1.is-1 andif

pub returns-in-4-eq22 : goal.returns-in-4-eq22
returns-in-4-eq22 c = at_row (λ r. k.Keyword r) c.in-4-eq22.is-0 c.in-4-eq22.is-1 orif
