use Rattle.std.proofs.Common.{◌≡◌, ◌++◌, drop}
use Rattle.std.specs.List.{filter}
use Rattle.obq_model.specs.Scopes.{is_covered}
use Rattle.obq_scope.specs.Outsides.{outside_of}
use Rattle.obq_scope.proofs.slots.find_captured.Given as goal

abbrev pub invariant-loop-name : goal.invariant-loop-name
invariant-loop-name l = l.covered ++ filter (is_covered (outside_of l.outside) l.locals) (drop l.name-index l.names) ≡ filter (is_covered (outside_of l.outside) l.locals) l.names
