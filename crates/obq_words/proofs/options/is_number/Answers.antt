use Rattle.std.proofs.Common.{rules, tests, ◌∙◌, sym}
use Rattle.std.specs.Char.{is_ascii_digit}
use Rattle.std.proofs.lemmas.Iterator.{YieldsList-from_slice}
use Rattle.std.proofs.lemmas.Iterator.Search.{all_from_yields_List}
use Rattle.obq_words.proofs.Numbers.{longer_number}
use Rattle.obq_words.proofs.options.is_number.Goals as goal

pub returns-then-first-ne48 : goal.returns-then-first-ne48
returns-then-first-ne48 c =
    all_from_yields_List is_ascii_digit _ _ c.all.result c.all.ensures.ran (YieldsList-from_slice c.args.word.now cc) (λ x b q k. search (rules, tests))
    ∙ sym (longer_number c.args.word.now (search (rules, c.in-len1-up.len_at_least)) (search (rules, c.if-first-ne48.true)))
