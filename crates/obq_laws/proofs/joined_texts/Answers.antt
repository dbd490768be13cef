use Rattle.obq_laws.proofs.Printing.{joined_texts}
use Rattle.obq_laws.proofs.joined_texts.Goals as goal

pub returns : goal.returns
returns c = record { law = joined_texts }
