use Rattle.obq_stands.proofs.Reports.{output_known}
use Rattle.obq_stands.proofs.output_known.Goals as goal

pub returns : goal.returns
returns c = record { law = output_known }
