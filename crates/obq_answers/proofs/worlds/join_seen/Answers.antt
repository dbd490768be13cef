use Rattle.obq_answers.proofs.SeenActs.{join_seen}
use Rattle.obq_answers.proofs.worlds.join_seen.Goals as goal

pub returns : goal.returns
returns c = record { law = join_seen }
