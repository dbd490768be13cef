use Rattle.obq_answers.proofs.Seen.{end_seen}
use Rattle.obq_answers.proofs.worlds.end_seen.Goals as goal

pub returns : goal.returns
returns c = record { law = end_seen }
