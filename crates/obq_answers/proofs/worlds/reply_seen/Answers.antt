use Rattle.obq_answers.proofs.Replies.{reply_seen}
use Rattle.obq_answers.proofs.worlds.reply_seen.Goals as goal

pub returns : goal.returns
returns c = record { law = reply_seen }
