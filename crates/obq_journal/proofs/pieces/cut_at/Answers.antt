use Rattle.obq_journal.proofs.Cuts.{cut_none, cut_some}
use Rattle.obq_journal.proofs.pieces.cut_at.Goals as goal

pub returns-in_default-clause-cut : goal.returns-in_default-clause-cut
returns-in_default-clause-cut c = cut_none c.args.byte c.args.text.now c.in_default.ensures

pub returns-clause-cut : goal.returns-clause-cut
returns-clause-cut c = cut_some c.args.byte c.args.text.now c.in-Some.place c.in-Some.ensures.0 c.in-Some.ensures.1
