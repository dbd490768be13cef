use Rattle.obq_laws.proofs.Printing.{prints_texts}
use Rattle.obq_laws.proofs.prints_texts.Goals as goal

pub returns : goal.returns
returns c = record { law = prints_texts }
