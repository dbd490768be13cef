use Rattle.obq_sources.proofs.Few as few
use Rattle.obq_sources.proofs.programs_are_narrow.Goals as goal

pub returns : goal.returns
returns c = record { law = few.programs_are_narrow }
