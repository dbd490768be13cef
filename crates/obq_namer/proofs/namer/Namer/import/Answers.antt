use Rattle.std.proofs.Common.{bytes_eq, ap, ◌∙◌}
use Rattle.std.specs.Prelude.{option_map}
use Rattle.std.specs.Map.{lookup}
use Rattle.obq_namer.proofs.Rows.{is_exported}
use Rattle.obq_namer.proofs.namer.Namer.import.Goals as goal

pub returns-clause-row : goal.returns-clause-row
returns-clause-row c = λ read. ap (option_map read) (c.get.ensures ∙ ap (lookup (bytes_eq c.args.name.now)) c.self.view_is) ∙ is_exported c.args.name.now c.args.self.now read
