use Rattle.std.specs.Prelude.{refl}
use Rattle.obq_host.proofs.OwnCells.{acts_on_own}
use Rattle.obq_host.proofs.host.Host.act_on_own_cells.Goals as goal

pub returns : goal.returns
returns c = acts_on_own _ _ _ _ _ _ _ _ _ c.in-Some.ensures.taken c.in-Some.ensures.rest c.in_ok-window.ensures.acted c.in_ok-window.ensures.same c.in_ok-put_at.ensures refl refl
