use Rattle.obq_grammar.proofs.Top.{whole_near, whole_stop}
use Rattle.obq_parts.proofs.Ends.{is_true, not_true}
use Rattle.obq_parts.proofs.Pass.{pass}
use Rattle.obq_parse.proofs.program.read_whole.Goals as goal

pub returns-in-Err-clause-read : goal.returns-in-Err-clause-read
returns-in-Err-clause-read c = pass c.in-Err.refused (λ z f. whole_near f) c.in-Err.ensures.read

pub returns-then-not-is_end-clause-read : goal.returns-then-not-is_end-clause-read
returns-then-not-is_end-clause-read c = whole_stop c.in-Ok.ensures.read.0 c.in-Ok.ensures.read.1 (not_true c.if-not-is_end.true c.is_end.ensures)

pub returns-clause-read : goal.returns-clause-read
returns-clause-read c = (c.in-Ok.ensures.read.0, is_true c.if-not-is_end.false c.is_end.ensures)
