use Rattle.obq_answers.proofs.SeenActs.{retake_seen}
use Rattle.obq_answers.proofs.worlds.retake_seen.Goals as goal

pub returns : goal.returns
returns c = record { law = retake_seen }
