use Rattle.std.proofs.Common.{◌≡◌, ◌++◌, drop}
use Rattle.obq_base.specs.View.{field_trees}
use Rattle.obq_model.specs.Draft.{field_names}
use Rattle.obq_scope.proofs.counts.names_in.Given as goal

abbrev pub invariant-loop-field : goal.invariant-loop-field
invariant-loop-field l = l.names ++ field_names (field_trees (drop l.field-index l.fields)) ≡ field_names (field_trees l.fields)
