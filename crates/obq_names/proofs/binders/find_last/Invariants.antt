use Rattle.std.proofs.Common.{◌≡◌, drop}
use Rattle.obq_model.specs.Scopes.{last_place, last_place_from}
use Rattle.obq_names.proofs.binders.find_last.Given as goal

abbrev pub invariant-loop-other : goal.invariant-loop-other
invariant-loop-other l = record {
  counted : l.place ≡ l.other-index;
  found : last_place_from l.place l.found l.name (drop l.other-index l.names) ≡ last_place l.name l.names;
}
