use Rattle.obq_grammar.proofs.Bounded as bounded
use Rattle.obq_grammar.proofs.sources_are_bounded.Goals as goal

pub returns : goal.returns
returns c = record { law = bounded.sources_are_bounded }
