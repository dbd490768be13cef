use Rattle.std.proofs.Common.{rules}
use Rattle.obq_words.proofs.Numbers.{unread}
use Rattle.obq_words.proofs.options.number_in.Goals as goal

-- a number that doesn't fit is above the limit
pub returns-in_default : goal.returns-in_default
returns-in_default c = unread 1 c.args.limit c.args.word.now c.in_default.field-0 (search rules) (search rules) c.in_default.ensures.value.0
