use Rattle.obq_grammar.proofs.Prefixes.{tree_and_fault}
use Rattle.obq_grammar.proofs.tree_or_fault.Goals as goal

pub returns : goal.returns
returns c tokens tree k d f = tree_and_fault tokens tree k d f
