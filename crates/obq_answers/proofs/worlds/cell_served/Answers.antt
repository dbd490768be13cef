use Rattle.obq_answers.proofs.Requests.{cell_served}
use Rattle.obq_answers.proofs.worlds.cell_served.Goals as goal

pub returns : goal.returns
returns c = record { law = cell_served }
