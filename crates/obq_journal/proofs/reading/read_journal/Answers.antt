use Rattle.std.proofs.Common.{rules}
use Rattle.obq_journal.proofs.Entries.{behind_two}
use Rattle.obq_journal.proofs.reading.read_journal.Goals as goal

pub returns : goal.returns
returns c =
    search (rules, behind_two c.args.text.now c.in-Some.first.now c.in-Some.behind.now c.in-Some-cut_at.second.now c.in-Some-cut_at.behind.now c.in-Some-turns_in.turns c.in-Some.ensures.cut (search (rules, c.if-ne.false)) c.in-Some-cut_at.ensures.cut c.in-Some-turns_in.ensures)
