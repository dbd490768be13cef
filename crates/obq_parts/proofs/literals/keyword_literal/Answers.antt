use Rattle.obq_model.specs.Grammar.{true_, false_, ok, exit}
use Rattle.obq_parts.proofs.Beginnings.{literal_at}
use Rattle.obq_parts.proofs.literals.keyword_literal.Goals as goal

pub returns-in-31 : goal.returns-in-31
returns-in-31 c = literal_at c.in-31.is (λ r. true_)

pub returns-in-9 : goal.returns-in-9
returns-in-9 c = literal_at c.in-9.is (λ r. false_)

pub returns-in-21 : goal.returns-in-21
returns-in-21 c = literal_at c.in-21.is (λ r. ok)

pub returns-in-8 : goal.returns-in-8
returns-in-8 c = literal_at c.in-8.is (λ r. exit)
