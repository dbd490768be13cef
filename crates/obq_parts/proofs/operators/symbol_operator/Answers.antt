use Rattle.obq_base.specs.declared.tokens.TokenKind.TheVariants as k
use Rattle.obq_model.specs.Grammar.{multiply, divide, remainder, add, subtract, join, less, less_equal, greater, greater_equal}
use Rattle.obq_parts.proofs.Rows.{at_row}
use Rattle.obq_parts.proofs.operators.symbol_operator.Goals as goal

pub returns-in-0-eq4 : goal.returns-in-0-eq4
returns-in-0-eq4 c = at_row (λ r. k.Symbol r) c.in-0-eq4.is-0 c.in-0-eq4.is-1 multiply

pub returns-in-0-eq9 : goal.returns-in-0-eq9
returns-in-0-eq9 c = at_row (λ r. k.Symbol r) c.in-0-eq9.is-0 c.in-0-eq9.is-1 divide

pub returns-in-0-eq0 : goal.returns-in-0-eq0
returns-in-0-eq0 c = at_row (λ r. k.Symbol r) c.in-0-eq0.is-0 c.in-0-eq0.is-1 remainder

pub returns-in-1-eq5 : goal.returns-in-1-eq5
returns-in-1-eq5 c = at_row (λ r. k.Symbol r) c.in-1-eq5.is-0 c.in-1-eq5.is-1 add

pub returns-in-1-eq7 : goal.returns-in-1-eq7
returns-in-1-eq7 c = at_row (λ r. k.Symbol r) c.in-1-eq7.is-0 c.in-1-eq7.is-1 subtract

pub returns-in-1-eq1 : goal.returns-in-1-eq1
returns-in-1-eq1 c = at_row (λ r. k.Symbol r) c.in-1-eq1.is-0 c.in-1-eq1.is-1 join

pub returns-in-2-eq12 : goal.returns-in-2-eq12
returns-in-2-eq12 c = at_row (λ r. k.Symbol r) c.in-2-eq12.is-0 c.in-2-eq12.is-1 less

pub returns-in-2-eq13 : goal.returns-in-2-eq13
returns-in-2-eq13 c = at_row (λ r. k.Symbol r) c.in-2-eq13.is-0 c.in-2-eq13.is-1 less_equal

pub returns-in-2-eq16 : goal.returns-in-2-eq16
returns-in-2-eq16 c = at_row (λ r. k.Symbol r) c.in-2-eq16.is-0 c.in-2-eq16.is-1 greater

pub returns-in-2-eq17 : goal.returns-in-2-eq17
returns-in-2-eq17 c = at_row (λ r. k.Symbol r) c.in-2-eq17.is-0 c.in-2-eq17.is-1 greater_equal
