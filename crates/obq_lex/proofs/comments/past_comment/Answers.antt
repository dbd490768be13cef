use Rattle.std.proofs.Common.{◌∷◌, length, refl, sym, ap, arith, subst}
use Rattle.obq_model.specs.Tokens.{IsOpen, IsFault, high_in_comment, open_comment}
use Rattle.obq_lex.proofs.Nested.{stands_first, stands_opens, stands_closes, stands_byte, stands_closed, stands_open}
use Rattle.obq_lex.proofs.comments.past_comment.Goals as goal

pub loop-after-init : goal.loop-after-init
loop-after-init c = record { some = omega arith; fits = omega arith; stands = stands_first c.args.x.now }

pub loop-after-preserved-in-Opens : goal.loop-after-preserved-in-Opens
loop-after-preserved-in-Opens c =
    let i = c.loop-after.invariant in
    let n = ap length c.in-Opens.ensures in
    record { some = omega arith; fits = omega arith; stands = stands_opens c.loop-after.depth _ c.args.x.now c.loop-after.rest.now c.in-Opens.after.now i.some refl c.in-Opens.ensures i.stands }

pub returns-then-depth-eq1 : goal.returns-then-depth-eq1
returns-then-depth-eq1 c = stands_closed c.loop-after.depth c.args.x.now c.loop-after.rest.now c.in-Closes.after.now c.if-depth-eq1.true c.in-Closes.ensures c.loop-after.invariant.stands

pub loop-after-preserved-in-Closes : goal.loop-after-preserved-in-Closes
loop-after-preserved-in-Closes c =
    let i = c.loop-after.invariant in
    let n = ap length c.in-Closes.ensures in
    record { some = omega arith; fits = omega arith; stands = stands_closes c.loop-after.depth _ c.args.x.now c.loop-after.rest.now c.in-Closes.after.now (omega arith) (omega arith) c.in-Closes.ensures i.stands }

pub loop-after-preserved : goal.loop-after-preserved
loop-after-preserved c =
    let i = c.loop-after.invariant in
    let e = c.in-Byte.ensures in
    let n = ap length e.4 in
    record { some = omega arith; fits = omega arith; stands = stands_byte c.loop-after.depth e.0 c.args.x.now c.loop-after.rest.now c.in-Byte.after.now i.some e.4 e.1 e.2 e.3 i.stands }

pub returns-in-High : goal.returns-in-High
returns-in-High c =
    let i = c.loop-after.invariant in
    let e = c.in-High.ensures in
    (c.loop-after.rest.now, subst (λ z. IsFault _ (40 ∷ 42 ∷ c.args.x.now) z) (sym e.3) (high_in_comment (subst (λ z. IsOpen c.args.x.now z) e.3 (stands_open c.loop-after.depth c.args.x.now c.loop-after.rest.now i.some i.stands)) e.2), refl)

pub returns-in-End : goal.returns-in-End
returns-in-End c =
    let i = c.loop-after.invariant in
    (40 ∷ 42 ∷ c.args.x.now, open_comment (subst (λ z. IsOpen c.args.x.now z) c.in-End.ensures (stands_open c.loop-after.depth c.args.x.now c.loop-after.rest.now i.some i.stands)), omega arith)
