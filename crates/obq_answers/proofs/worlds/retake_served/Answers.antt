use Rattle.obq_answers.proofs.Requests.{retake_served}
use Rattle.obq_answers.proofs.worlds.retake_served.Goals as goal

pub returns : goal.returns
returns c = record { law = retake_served }
