use Rattle.std.proofs.Common.{refl, sym, subst}
use Rattle.obq_model.specs.Tokens.{Mark}
use Rattle.obq_lex.specs.Scans.{Fails}
use Rattle.obq_lex.proofs.Spelled.{mark_token, stray_there}
use Rattle.obq_lex.proofs.pieces.symbol_at.Goals as goal

pub returns-in-Some : goal.returns-in-Some
returns-in-Some c = (Mark c.in-Some.row, mark_token c.in-Some.row c.args.x.now c.in-Some.rest.now c.requires c.in-Some.ensures.0 c.in-Some.ensures.1, refl)

pub returns-in-None : goal.returns-in-None
returns-in-None c =
    subst (λ f. Fails c.args.x.now f) (sym c.fault_at.ensures) (c.args.x.now, stray_there c.args.x.now c.requires c.in-None.ensures, refl)
