use Rattle.obq_answers.proofs.Seen.{bottom_seen}
use Rattle.obq_answers.proofs.worlds.bottom_seen.Goals as goal

pub returns : goal.returns
returns c = record { law = bottom_seen }
