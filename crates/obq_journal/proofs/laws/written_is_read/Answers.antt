use Rattle.obq_journal.proofs.ReadBack.{written_is_read}
use Rattle.obq_journal.proofs.laws.written_is_read.Goals as goal

pub returns : goal.returns
returns c = written_is_read
