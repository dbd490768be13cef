use Rattle.obq_answers.proofs.SeenActs.{new_seen}
use Rattle.obq_answers.proofs.worlds.new_seen.Goals as goal

pub returns : goal.returns
returns c = record { law = new_seen }
