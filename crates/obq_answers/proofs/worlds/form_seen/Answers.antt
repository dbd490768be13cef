use Rattle.obq_answers.proofs.SeenActs.{form_seen}
use Rattle.obq_answers.proofs.worlds.form_seen.Goals as goal

pub returns : goal.returns
returns c = record { law = form_seen }
