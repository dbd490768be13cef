use Rattle.std.proofs.Common.{drop, ◌*◌, ◌+◌, ◌≡◌}
use Rattle.obq_model.specs.Terms as m
use Rattle.obq_plain.specs.Activations.{activations_among}
use Rattle.obq_terms.specs.Behind.{behind}
use Rattle.obq_terms.specs.Weight.{form_weight, parts_weight, term_weight}
use Rattle.obq_plain.proofs.activations.+activations.Given as goal

abbrev pub decreases-activations_of : goal.decreases-activations_of
decreases-activations_of l = 2 * term_weight l.term.now + 1

abbrev pub decreases-activations_of_form : goal.decreases-activations_of_form
decreases-activations_of_form l = 2 * form_weight l.form.now + 1

abbrev pub decreases-activations_among : goal.decreases-activations_among
decreases-activations_among l = 2 * parts_weight (behind l.terms.now m.End)

abbrev pub invariant-activations_among-loop-term : goal.invariant-activations_among-loop-term
invariant-activations_among-loop-term l = l.count + activations_among (drop l.term-index l.terms) ≡ activations_among l.terms
