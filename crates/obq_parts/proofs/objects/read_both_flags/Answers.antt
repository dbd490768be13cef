use Rattle.std.proofs.Common.{refl}
use Rattle.obq_model.specs.Grammar.{IsBothFlags, flags_alone}
use Rattle.obq_grammar.proofs.Theory.{move}
use Rattle.obq_grammar.proofs.failing.Objects.{both_flags_stop}
use Rattle.obq_parts.proofs.Braces.{both_fields}
use Rattle.obq_parts.proofs.objects.read_both_flags.Goals as goal

pub returns-in-Some-clause-head : goal.returns-in-Some-clause-head
returns-in-Some-clause-head c = (refl, move IsBothFlags _ _ _ _ c.in-Some.ensures.found flags_alone)

pub returns-in-Some-take_word-clause-head : goal.returns-in-Some-take_word-clause-head
returns-in-Some-take_word-clause-head c = both_fields _ _ c.in-Some-take_word.ensures.found

pub returns-in-None-clause-head : goal.returns-in-None-clause-head
returns-in-None-clause-head c = both_flags_stop c.in_default.ensures.found c.in-None.ensures.found
