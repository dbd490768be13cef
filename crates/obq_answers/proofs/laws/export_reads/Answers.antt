use Rattle.obq_answers.proofs.Threads.{export_reads}
use Rattle.obq_answers.proofs.laws.export_reads.Goals as goal

pub returns : goal.returns
returns c = record { law = export_reads }
