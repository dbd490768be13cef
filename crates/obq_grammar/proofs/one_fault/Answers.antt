use Rattle.obq_grammar.proofs.Prefixes.{same_fault}
use Rattle.obq_grammar.proofs.one_fault.Goals as goal

pub returns : goal.returns
returns c tokens j k f g = same_fault tokens j k f g
