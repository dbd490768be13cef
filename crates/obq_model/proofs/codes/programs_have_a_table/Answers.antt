use Rattle.obq_model.specs.Procedures.{proc_at}
use Rattle.obq_model.proofs.Tables.{is_table, tables_of}
use Rattle.obq_model.proofs.codes.programs_have_a_table.Goals as goal

pub returns : goal.returns
returns c = λ blocks parts h. (proc_at (tables_of 0 blocks parts h), is_table blocks parts h)
