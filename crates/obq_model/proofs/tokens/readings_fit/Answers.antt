use Rattle.obq_model.proofs.Widths.{reading_width, reading_length}
use Rattle.obq_model.proofs.tokens.readings_fit.Goals as goal

pub returns : goal.returns
returns c = record { widths = reading_width; few = reading_length }
