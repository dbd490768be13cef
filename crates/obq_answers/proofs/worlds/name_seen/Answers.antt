use Rattle.obq_answers.proofs.SeenActs.{name_seen}
use Rattle.obq_answers.proofs.worlds.name_seen.Goals as goal

pub returns : goal.returns
returns c = record { law = name_seen }
