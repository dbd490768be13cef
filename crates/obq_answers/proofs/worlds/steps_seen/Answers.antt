use Rattle.obq_answers.proofs.Seen.{steps_seen}
use Rattle.obq_answers.proofs.worlds.steps_seen.Goals as goal

pub returns : goal.returns
returns c = record { law = steps_seen }
