use Rattle.obq_sources.proofs.Few as few
use Rattle.obq_sources.proofs.sources_are_narrow.Goals as goal

pub returns : goal.returns
returns c = record { law = few.sources_are_narrow }
