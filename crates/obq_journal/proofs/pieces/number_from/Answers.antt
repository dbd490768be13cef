use Rattle.std.proofs.Common.{arith, rules}
use Rattle.obq_journal.proofs.Numbers.{number_utf8, unread}
use Rattle.obq_journal.proofs.pieces.number_from.Goals as goal

pub returns-in_default-parse-clause-value : goal.returns-in_default-parse-clause-value
returns-in_default-parse-clause-value c = unread c.args.least c.args.most c.args.word.now c.in-Ok.digits.now c.in_default-parse.field-0 (omega (arith, c.ranges.most.fits)) (search rules) c.in-Ok.ensures.cases.0 c.in_default-parse.ensures.value.0

-- digits are text
pub returns-in_default-clause-value : goal.returns-in_default-clause-value
returns-in_default-clause-value c = absurd (c.in_default.ensures.cases.0 (number_utf8 c.args.word.now (search rules)))
