use Rattle.std.specs.Prelude.{refl}
use Rattle.std.proofs.lemmas.Result.{IfOk-weaker}
use Rattle.obq_host.proofs.host.Host.export.Goals as goal

pub returns : goal.returns
returns c = IfOk-weaker c.after_export.result _ _ (λ x k. record { windows = k; names = c.in_ok-export.ensures.names; endings = refl; heap = refl }) c.after_export.ensures
