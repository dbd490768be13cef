use Rattle.obq_model.proofs.Plug.{plug_step}
use Rattle.obq_laws.proofs.plug_step.Goals as goal

pub returns : goal.returns
returns c c' = record { law = plug_step }
