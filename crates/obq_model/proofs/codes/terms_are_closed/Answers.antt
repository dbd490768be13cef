use Rattle.obq_model.proofs.Closed.{closed}
use Rattle.obq_model.proofs.codes.terms_are_closed.Goals as goal

pub returns : goal.returns
returns c = λ writer tree e x. closed writer tree e x
