use Rattle.std.proofs.Common.{arith}
use Rattle.obq_model.specs.Grammar.{IsNames}
use Rattle.obq_grammar.proofs.Theory.{re, as_tree}
use Rattle.obq_grammar.proofs.failing.Bindings.{names_at_1}
use Rattle.obq_parts.proofs.Again.{names_again, names_last}
use Rattle.obq_parts.proofs.names.read_names.Goals as goal

pub returns-in_default-clause-read : goal.returns-in_default-clause-read
returns-in_default-clause-read c = c.loop-name.invariant.leads.fails _ (names_at_1 c.in_default.ensures.found)

pub loop-name-preserved : goal.loop-name-preserved
loop-name-preserved c = record {
  leads = re (cc (c.in-Ok-push.ensures.ok, c.in-Ok.ensures)) (names_again c.loop-name.invariant.leads c.in-Some.ensures.found c.in-Some-take_word.ensures.found);
  shorter = omega (arith, c.in-Some.ensures.shorter, c.in-Some-take_word.ensures.shorter, c.loop-name.invariant.shorter);
}

pub returns-in-None-clause-read : goal.returns-in-None-clause-read
returns-in-None-clause-read c = (as_tree IsNames (cc (c.in-Ok-push.ensures.ok, c.in-Ok.ensures)) (names_last c.loop-name.invariant.leads c.in-Some.ensures.found), c.in-None.ensures.found)
