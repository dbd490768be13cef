use Rattle.std.proofs.Common.{◌∙◌, ap, is_some}
use Rattle.obq_names.proofs.Placed.{last_place-among}
use Rattle.obq_names.proofs.binders.Binders.contains.Goals as goal

pub returns : goal.returns
returns c = c.is_some.ensures ∙ ap is_some c.last_place.ensures ∙ last_place-among c.args.name.now c.args.self.now
