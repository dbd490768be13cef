use Rattle.std.specs.Prelude.{refl}
use Rattle.obq_host.proofs.Trying.{has_run}
use Rattle.obq_host.proofs.host.Host.run.Goals as goal

pub returns : goal.returns
returns g c running = has_run _ _ _ _ _ _ _ _ _ c.in-Some.ensures.taken c.in-Some.ensures.rest c.in_ok-window.ensures.few c.in_ok-window.ensures.runs c.in_ok-put_at.ensures (record { endings = refl; names = refl; heap = refl })
