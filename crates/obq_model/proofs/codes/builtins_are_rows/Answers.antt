use Rattle.obq_model.proofs.Rows.{named_row}
use Rattle.obq_model.proofs.codes.builtins_are_rows.Goals as goal

pub returns-clause-rows : goal.returns-clause-rows
returns-clause-rows c = named_row
