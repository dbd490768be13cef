use Rattle.obq_marshal.proofs.InRange.{in_range, count_is, is_meant}
use Rattle.obq_marshal.proofs.laws.packed_in_range.Goals as goal

pub returns-clause-table : goal.returns-clause-table
returns-clause-table c = λ meaning xs can few. (in_range meaning xs can few).0

pub returns-clause-values : goal.returns-clause-values
returns-clause-values c = λ meaning xs can few. (in_range meaning xs can few).1

pub returns-clause-count : goal.returns-clause-count
returns-clause-count c = λ meaning xs can. count_is meaning xs can

pub returns-clause-meant : goal.returns-clause-meant
returns-clause-meant c = λ meaning xs can. is_meant meaning xs can
