use Rattle.std.proofs.Common.{false, refl}
use Rattle.obq_model.specs.Grammar.{IsFlagged, flag_alone}
use Rattle.obq_grammar.proofs.Theory.{move}
use Rattle.obq_grammar.proofs.failing.Objects.{flagged_stop}
use Rattle.obq_parts.proofs.Braces.{one_both, one_fields}
use Rattle.obq_parts.proofs.objects.read_flagged.Goals as goal

pub returns-in-Some-clause-head : goal.returns-in-Some-clause-head
returns-in-Some-clause-head c = (false, move (IsFlagged c.args.other false) _ _ _ _ c.in-Some.ensures.found flag_alone, refl)

pub returns-in_default-take_word-clause-head : goal.returns-in_default-take_word-clause-head
returns-in_default-take_word-clause-head c = flagged_stop c.in_default.ensures.found c.in_default-take_word.ensures.found

pub returns-in-Some-take_word-2-clause-head : goal.returns-in-Some-take_word-2-clause-head
returns-in-Some-take_word-2-clause-head c = one_both _ _ _ _ _ c.in-Some-take_word.ensures.found c.in-Some-take_word-2.ensures.found _ c.read_both_flags.ensures.head

pub returns-in-None-clause-head : goal.returns-in-None-clause-head
returns-in-None-clause-head c = one_fields _ _ _ _ c.in-Some-take_word.ensures.found c.in-None.ensures.found
