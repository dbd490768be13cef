use Rattle.obq_grammar.proofs.Named.{one_first}
use Rattle.obq_grammar.proofs.one_unbound.Goals as goal

pub returns : goal.returns
returns c = one_first
