use Rattle.obq_namer.proofs.Rows.{export_is}
use Rattle.obq_namer.proofs.namer.Namer.export.Goals as goal

pub returns-clause-row : goal.returns-clause-row
returns-clause-row c = export_is c.put.result c.args.name c.args.value c.self.inside.names c.args.self.now c.put.new.self c.self.view_is c.put.ensures.ok
