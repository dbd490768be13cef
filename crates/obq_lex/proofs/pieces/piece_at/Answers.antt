use Rattle.std.proofs.Common.{refl, sym, arith, subst}
use Rattle.obq_base.specs.declared.faults.LexKind.TheVariants.{NotAscii}
use Rattle.obq_model.specs.Tokens.{IsBlank, white, IsFault, high}
use Rattle.obq_lex.specs.Scans.{Fails}
use Rattle.obq_lex.proofs.pieces.piece_at.Goals as goal

pub returns-then-is_white : goal.returns-then-is_white
returns-then-is_white c = subst (λ z. IsBlank z c.in-Some.after.now) (sym c.in-Some.ensures) (white (sym c.if-is_white.ensures))

pub returns-then-first-ge128 : goal.returns-then-first-ge128
returns-then-first-ge128 c =
    subst (λ f. Fails c.args.x.now f) (sym c.fault_at.ensures)
    (c.args.x.now, subst (λ z. IsFault NotAscii z z) (sym c.in-Some.ensures) (high (omega arith)), refl)
