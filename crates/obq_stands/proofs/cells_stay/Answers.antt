use Rattle.obq_stands.proofs.Stays.{cells_stay}
use Rattle.obq_stands.proofs.cells_stay.Goals as goal

pub returns : goal.returns
returns c = record { law = cells_stay }
