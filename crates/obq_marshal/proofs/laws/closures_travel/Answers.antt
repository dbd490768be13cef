use Rattle.obq_marshal.proofs.Travel.{travel}
use Rattle.obq_marshal.proofs.laws.closures_travel.Goals as goal

pub returns-clause-values : goal.returns-clause-values
returns-clause-values c = λ meaning cache xs meant agrees. (travel meaning cache xs meant agrees).0

pub returns-clause-cache : goal.returns-clause-cache
returns-clause-cache c = λ meaning cache xs meant agrees. (travel meaning cache xs meant agrees).1
