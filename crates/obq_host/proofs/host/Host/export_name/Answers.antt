use Rattle.obq_host.proofs.Trying.{has_exported}
use Rattle.obq_host.proofs.host.Host.export_name.Goals as goal

pub returns : goal.returns
returns c due = has_exported _ _ _ _ _ _ _ c.act.ensures c.in_ok-export.ensures due
