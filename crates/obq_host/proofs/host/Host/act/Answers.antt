use Rattle.obq_host.proofs.OwnCells.{on_cells, on_threads}
use Rattle.obq_host.proofs.host.Host.act.Goals as goal

pub returns-in-Some : goal.returns-in-Some
returns-in-Some c = on_threads _ _ _ _ _ _ _ _ c.in_ok-tried.ensures c.in-Some.is

pub returns-in_ok-act-in-None : goal.returns-in_ok-act-in-None
returns-in_ok-act-in-None c = on_cells _ _ _ _ _ _ _ _ _ _ c.in_ok-tried.ensures c.in-None.is c.in_ok-act-in-None.ensures c.tried_of.ensures
