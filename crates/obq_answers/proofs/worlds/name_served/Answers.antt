use Rattle.obq_answers.proofs.Requests.{name_served}
use Rattle.obq_answers.proofs.worlds.name_served.Goals as goal

pub returns : goal.returns
returns c = record { law = name_served }
