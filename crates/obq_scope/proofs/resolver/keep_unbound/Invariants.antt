use Rattle.std.proofs.Common.{◌≡◌, ◌++◌, drop, not}
use Rattle.std.specs.List.{filter}
use Rattle.obq_model.specs.Occurrences.{is_predefined}
use Rattle.obq_scope.proofs.resolver.keep_unbound.Given as goal

abbrev pub invariant-loop-occurrence : goal.invariant-loop-occurrence
invariant-loop-occurrence l = l.kept ++ filter (λ o. not (is_predefined o)) (drop l.occurrence-index l.found) ≡ filter (λ o. not (is_predefined o)) l.found
