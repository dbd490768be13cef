use Rattle.obq_stands.proofs.Reports.{report_known}
use Rattle.obq_stands.proofs.report_known.Goals as goal

pub returns : goal.returns
returns c = record { law = report_known }
