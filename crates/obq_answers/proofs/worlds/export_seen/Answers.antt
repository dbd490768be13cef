use Rattle.obq_answers.proofs.SeenActs.{export_seen}
use Rattle.obq_answers.proofs.worlds.export_seen.Goals as goal

pub returns : goal.returns
returns c = record { law = export_seen }
