use Rattle.std.proofs.Common.{refl}
use Rattle.obq_model.specs.Tokens.{Literal}
use Rattle.obq_lex.proofs.Spelled.{text_token}
use Rattle.obq_lex.proofs.pieces.text_at.Goals as goal

pub returns-in-Ok : goal.returns-in-Ok
returns-in-Ok c = (Literal c.in-Ok.text, text_token c.in-Ok.text c.args.after.now c.in-Ok.rest.now c.in-Ok.ensures.0 c.in-Ok.ensures.1, refl)
