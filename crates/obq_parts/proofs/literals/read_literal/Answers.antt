use Rattle.std.proofs.Common.{ℤ, ap, rules, w64, SFits}
use Rattle.std.proofs.lemmas.Int.{to_z-of_z}
use Rattle.obq_base.specs.declared.trees.Expr.TheVariants as e
use Rattle.obq_model.specs.Grammar.{IsPrim, int, text, name}
use Rattle.obq_grammar.proofs.Theory.{as_tree, move}
use Rattle.obq_grammar.proofs.failing.Stops.{prim_stop}
use Rattle.obq_parts.proofs.Beginnings.{alike, no_keyword, no_symbol, nothing}
use Rattle.obq_parts.proofs.literals.read_literal.Goals as goal

pub returns-in_default-clause-read : goal.returns-in_default-clause-read
returns-in_default-clause-read c = prim_stop (nothing _ c.in_default.ensures.found)

pub returns-in-Int-clause-read : goal.returns-in-Int-clause-read
returns-in-Int-clause-read c =
    let z = to_z-of_z w64 c.in-Int.value (let f : SFits w64 c.in-Int.value = search rules in f) in
    (as_tree IsPrim (ap (λ (v : ℤ). e.Int v c.in-Some.place) z) (move IsPrim _ _ _ _ (alike c.in-Some.ensures.found c.in-Int.is) int), tt)

pub returns-in-Ok-clause-read : goal.returns-in-Ok-clause-read
returns-in-Ok-clause-read c = (as_tree IsPrim (cc c.in-Ok.ensures) (move IsPrim _ _ _ _ (alike c.in-Some.ensures.found c.in-Text.is) text), tt)

pub returns-in-Ok-copy-clause-read : goal.returns-in-Ok-copy-clause-read
returns-in-Ok-copy-clause-read c = (as_tree IsPrim (cc c.in-Ok-copy.ensures) (move IsPrim _ _ _ _ (alike c.in-Some.ensures.found c.in-Name.is) name), tt)

pub returns-in-None-clause-read : goal.returns-in-None-clause-read
returns-in-None-clause-read c = prim_stop (no_keyword _ c.in-Some.ensures.found c.in-Keyword.is c.in-None.ensures c.requires)

pub returns-in_default-kind-clause-read : goal.returns-in_default-kind-clause-read
returns-in_default-kind-clause-read c = prim_stop (no_symbol _ c.in-Some.ensures.found c.in_default-kind.not-Int c.in_default-kind.not-Text c.in_default-kind.not-Name c.in_default-kind.not-Keyword c.requires)
