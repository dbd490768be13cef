use Rattle.std.proofs.Common.{ap, arith, sym, ◌*◌, ◌+◌, ◌∙◌, ◌≡◌}
use Rattle.std.proofs.lemmas.Result.{IfOk-weaker}
use Rattle.obq_model.specs.Located.{activations_of}
use Rattle.obq_model.specs.Step.{activations_in, values_before}
use Rattle.obq_model.specs.Terms as m
use Rattle.obq_plain.proofs.Activated.{in_form}
use Rattle.obq_plain.proofs.activations.+activations.Goals as goal
use Rattle.obq_plain.specs.Activations.{activations_among}
use Rattle.obq_terms.proofs.Measures.{form_rest_falls, item_falls, rest_falls}
use Rattle.obq_terms.specs.Behind.{behind}
use Rattle.obq_terms.specs.Values.{kind_of, node_term, values_of}
use Rattle.obq_terms.specs.Weight.{form_weight, parts_weight, term_weight}

pub activations_of-activations_among-requires : goal.activations_of-activations_among-requires
activations_of-activations_among-requires t c =
    let seen : c.args.term.now ≡ m.Form (kind_of c.in-Form.kind) (values_before (values_of c.in-Form.done) (behind c.in-Form.rest m.End)) = sym c.term.view_is ∙ ap node_term c.in-Form.is in
    let e = ap (λ u. 2 * term_weight u + 1) seen in
    let f = ap (λ us. 2 * parts_weight (behind us m.End)) c.as_slice.ensures in
    (omega (arith, rest_falls (kind_of c.in-Form.kind) c.in-Form.done c.in-Form.rest, e, f, c.decreases), tt)

pub activations_of_form-activations_among-requires : goal.activations_of_form-activations_among-requires
activations_of_form-activations_among-requires t c =
    let f = c.form.inside in
    let e = ap (λ g. 2 * form_weight g + 1) (sym c.form.view_is) in
    let i = ap (λ us. 2 * parts_weight (behind us m.End)) c.as_slice.ensures in
    (omega (arith, form_rest_falls (kind_of f.kind) f.done f.rest, e, i, c.decreases), tt)

pub activations_of-returns-in_ok-inside-in-Form : goal.activations_of-returns-in_ok-inside-in-Form
activations_of-returns-in_ok-inside-in-Form t c =
    let f = c.in-Form in
    let seen : c.args.term.now ≡ m.Form (kind_of f.kind) (values_before (values_of f.done) (behind f.rest m.End)) = sym c.term.view_is ∙ ap node_term f.is in
    let inside = c.in_ok-inside-in-Form.ensures ∙ ap activations_among c.as_slice.ensures in
    let same = ap (λ n. activations_in n (kind_of f.kind)) inside ∙ sym (in_form (kind_of f.kind) (values_of f.done) f.rest) ∙ ap activations_of (sym seen) in
    IfOk-weaker c.activations_in.result _ _ (λ count e. e ∙ same) c.activations_in.ensures

pub activations_of_form-returns : goal.activations_of_form-returns
activations_of_form-returns t c =
    let f = c.form.inside in
    let inside = c.in_ok-inside.ensures ∙ ap activations_among c.as_slice.ensures in
    let same = ap (λ n. activations_in n (kind_of f.kind)) inside ∙ sym (in_form (kind_of f.kind) (values_of f.done) f.rest) ∙ ap (λ p. activations_of (m.Form p.0 p.1)) c.form.view_is in
    IfOk-weaker c.activations_in.result _ _ (λ count e. e ∙ same) c.activations_in.ensures

pub activations_among-activations_of-requires : goal.activations_among-activations_of-requires
activations_among-activations_of-requires t c =
    let e = ap (λ u. 2 * term_weight u + 1) c.term-item.is in
    (omega (arith, item_falls c.args.terms.now c.loop-term.term-index c.term-item.result c.loop-term-test.true, e, c.decreases), tt)
