use Rattle.obq_parts.specs.Closed.{unclosed}
use Rattle.obq_parts.proofs.names.read_closed_names.Goals as goal

pub returns-in-None-clause-read : goal.returns-in-None-clause-read
returns-in-None-clause-read c = unclosed _ c.in-Ok.ensures.read.0 c.in-Ok.ensures.read.1 c.in-None.ensures.found
