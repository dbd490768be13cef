use Rattle.obq_answers.proofs.SeenActs.{fork_seen}
use Rattle.obq_answers.proofs.worlds.fork_seen.Goals as goal

pub returns : goal.returns
returns c = record { law = fork_seen }
