use Rattle.obq_host.proofs.Trying.{has_ended}
use Rattle.obq_host.proofs.host.Host.act_on_threads.Goals as goal

pub returns-in_ok-end-in-End : goal.returns-in_ok-end-in-End
returns-in_ok-end-in-End c = has_ended _ _ _ _ _ c.act.ensures c.in_ok-end-in-End.ensures
