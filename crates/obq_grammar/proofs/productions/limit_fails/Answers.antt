use Rattle.std.proofs.Common.{refl}
use Rattle.obq_grammar.proofs.failing.Primaries.{for_at_6}
use Rattle.obq_grammar.proofs.productions.limit_fails.Goals as goal

pub returns : goal.returns
returns c n v p q t u x y z e f = for_at_6 refl refl refl e tt refl f
