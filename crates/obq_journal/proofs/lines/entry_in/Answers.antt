use Rattle.obq_journal.proofs.TooMany.{no_entry}
use Rattle.obq_journal.proofs.lines.entry_in.Goals as goal

pub returns-in_default-cut_at : goal.returns-in_default-cut_at
returns-in_default-cut_at c =
    let last = c.in_default-cut_at.field-0 in
    no_entry c.args.line.now c.in_ok-thread.thread.now c.in_ok-thread.behind.now c.in_ok-pure.pure.now c.in_ok-pure.behind.now c.in-Some.kind.now c.in-Some.loc.now last.0.now last.1.now c.in_ok-thread.ensures.cut c.in_ok-pure.ensures.cut c.in-Some.ensures.cut c.in_default-cut_at.ensures.cut
