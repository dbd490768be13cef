use Rattle.obq_answers.proofs.SeenActs.{cell_seen}
use Rattle.obq_answers.proofs.worlds.cell_seen.Goals as goal

pub returns : goal.returns
returns c = record { law = cell_seen }
