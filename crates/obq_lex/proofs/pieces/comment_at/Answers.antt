use Rattle.obq_model.specs.Tokens.{remark, comment}
use Rattle.obq_lex.proofs.pieces.comment_at.Goals as goal

pub returns-in-Ok : goal.returns-in-Ok
returns-in-Ok c = remark (comment c.in-Ok.ensures)
