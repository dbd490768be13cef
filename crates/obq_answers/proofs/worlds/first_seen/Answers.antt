use Rattle.obq_answers.proofs.Seen.{first_seen}
use Rattle.obq_answers.proofs.worlds.first_seen.Goals as goal

pub returns : goal.returns
returns c = record { law = first_seen }
