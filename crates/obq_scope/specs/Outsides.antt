-- What a code knows besides its own binders, as the definitions have it.
use Rattle.obq_model.specs.Scopes as model
use Rattle.obq_scope.specs.declared.outside.Outside.{Outside}

abbrev pub outside_of : Outside → model.Outside
outside_of o = record { source = o.source; members = o.members; captured = o.captured }
