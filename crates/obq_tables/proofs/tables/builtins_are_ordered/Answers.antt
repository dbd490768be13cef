use Rattle.std.proofs.Common.{refl}
use Rattle.std.specs.Str.{bytes_eq}
use Rattle.obq_tables.specs.Tables.{builtins}
use Rattle.obq_tables.proofs.Distinct.{distinct}
use Rattle.obq_tables.proofs.tables.builtins_are_ordered.Goals as goal

pub returns-clause-once : goal.returns-clause-once
returns-clause-once c = distinct bytes_eq builtins refl
