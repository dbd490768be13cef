use Rattle.obq_grammar.proofs.Named.{leaves_of}
use Rattle.obq_grammar.proofs.leaves_are_tokens.Goals as goal

pub returns : goal.returns
returns c = leaves_of
