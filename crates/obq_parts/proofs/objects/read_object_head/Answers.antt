use Rattle.std.proofs.Common.{[], false}
use Rattle.obq_model.specs.Grammar.{flags, IsObject, no_field}
use Rattle.obq_grammar.proofs.Theory.{move}
use Rattle.obq_parts.proofs.Braces.{plain_fields, protected_head, serialized_head}
use Rattle.obq_parts.proofs.objects.read_object_head.Goals as goal

pub returns-in-Some-clause-head : goal.returns-in-Some-clause-head
returns-in-Some-clause-head c = move (IsObject (flags false false)) [] _ _ _ c.in-Some.ensures.found no_field

pub returns-in-Some-take_word-clause-head : goal.returns-in-Some-take_word-clause-head
returns-in-Some-take_word-clause-head c = protected_head _ _ c.in-Some-take_word.ensures.found _ c.read_flagged.ensures.head

pub returns-in-Some-take_word-2-clause-head : goal.returns-in-Some-take_word-2-clause-head
returns-in-Some-take_word-2-clause-head c = serialized_head _ _ c.in-Some-take_word-2.ensures.found _ c.read_flagged-in-Some-take_word-2.ensures.head

pub returns-clause-head : goal.returns-clause-head
returns-clause-head c = plain_fields _ c.in_default.ensures.found c.in_default-take_word.ensures.found c.in_default-take_word-2.ensures.found
