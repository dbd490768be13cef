use Rattle.obq_grammar.proofs.Unique.{unique_block}
use Rattle.obq_grammar.proofs.one_tree.Goals as goal

pub returns : goal.returns
returns c tokens a b p q = let u = unique_block p.1 tt b _ q.1 tt in u.0
