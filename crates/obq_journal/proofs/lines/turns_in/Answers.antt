use Rattle.obq_journal.proofs.TooMany.{no_turns}
use Rattle.obq_journal.proofs.lines.turns_in.Goals as goal

pub returns-in_default : goal.returns-in_default
returns-in_default c = no_turns c.args.line.now c.in_ok-word.word.now c.in_ok-word.number.now c.in_default.field-0.0.now c.in_default.field-0.1.now c.in_ok-word.ensures.cut c.in_default.ensures.cut
