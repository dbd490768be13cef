use Rattle.obq_stands.proofs.Entered.{begun_kept}
use Rattle.obq_stands.proofs.begun_kept.Goals as goal

pub returns : goal.returns
returns c = record { law = begun_kept }
