use Rattle.std.proofs.Common.{◌-◌, length, Ok, Err, refl, sym, ap, ◌∙◌, arith, subst}
use Rattle.std.proofs.lemmas.Bool.{eqb-true}
use Rattle.std.proofs.lemmas.List.{nil_from_length}
use Rattle.obq_base.specs.declared.tokens.Token.{Token}
use Rattle.obq_model.specs.Tokens.{IsRead, done, IsBlank, nested, token_nesting}
use Rattle.obq_model.proofs.Readings.{read_blank, blank_length}
use Rattle.obq_model.proofs.Uniqueness.{ended}
use Rattle.obq_model.proofs.Widths.{reading_length}
use Rattle.obq_lex.specs.Scans.{Cuts}
use Rattle.obq_lex.specs.Lexes.{Lexes}
use Rattle.obq_lex.proofs.Lexed.{Reads, pushed, deeper_fault, stopped, whole, token_length}
use Rattle.obq_lex.proofs.lexer.lex.Goals as goal

pub loop-rest-init : goal.loop-rest-init
loop-rest-init c =
    let n = c.args.source.now in
    record { read = subst (λ ts. IsRead (length n) ts 0 n 0 n) (sym c.new-tokens.ensures.items) done; within = omega arith; shallow = omega arith }

pub loop-rest-smaller-in-Blank : goal.loop-rest-smaller-in-Blank
loop-rest-smaller-in-Blank c = blank_length (subst (λ p. Cuts c.loop-rest.rest.now (Ok p)) c.in-Blank.is c.in-Ok.ensures)

pub loop-rest-preserved-in-Blank : goal.loop-rest-preserved-in-Blank
loop-rest-preserved-in-Blank c =
    let i = c.loop-rest.invariant in
    let h : IsBlank c.loop-rest.rest.now c.in-Blank.after.now = subst (λ p. Cuts c.loop-rest.rest.now (Ok p)) c.in-Blank.is c.in-Ok.ensures in
    let n = blank_length h in
    record { read = read_blank i.read h; within = omega (arith, i.within); shallow = i.shallow }

pub returns-then-deeper-gt-NESTING_LIMIT-clause-exact : goal.returns-then-deeper-gt-NESTING_LIMIT-clause-exact
returns-then-deeper-gt-NESTING_LIMIT-clause-exact c =
    let h : Reads c.loop-rest.rest.now c.in-Token.kind c.in-Token.after.now = subst (λ p. Cuts c.loop-rest.rest.now (Ok p)) c.in-Token.is c.in-Ok.ensures in
    deeper_fault c.loop-rest.invariant.read h (c.nested-deeper.ensures ∙ ap (λ m. nested m c.loop-rest.depth) (c.token_nesting.ensures ∙ ap token_nesting h.2)) c.if-deeper-gt-NESTING_LIMIT.true

pub loop-rest-smaller : goal.loop-rest-smaller
loop-rest-smaller c =
    let h : Reads c.loop-rest.rest.now c.in-Token.kind c.in-Token.after.now = subst (λ p. Cuts c.loop-rest.rest.now (Ok p)) c.in-Token.is c.in-Ok.ensures in
    token_length h

pub loop-rest-preserved : goal.loop-rest-preserved
loop-rest-preserved c =
    let i = c.loop-rest.invariant in
    let h : Reads c.loop-rest.rest.now c.in-Token.kind c.in-Token.after.now = subst (λ p. Cuts c.loop-rest.rest.now (Ok p)) c.in-Token.is c.in-Ok.ensures in
    let n = token_length h in
    let deeper = c.nested-deeper.ensures ∙ ap (λ m. nested m c.loop-rest.depth) (c.token_nesting.ensures ∙ ap token_nesting h.2) in
    let t : Token = record { kind = c.in-Token.kind; place = length c.args.source.now - length c.loop-rest.rest.now } in
    record { read = pushed t i.read h deeper c.if-deeper-gt-NESTING_LIMIT.false refl c.in-Ok-push.ensures.items; within = omega (arith, i.within); shallow = c.if-deeper-gt-NESTING_LIMIT.false }

pub returns-in-Err-clause-exact : goal.returns-in-Err-clause-exact
returns-in-Err-clause-exact c = subst (λ r. Lexes c.args.source.now (Err r)) (sym c.refused.ensures) (stopped c.in-Err.stop c.loop-rest.invariant.read c.in-Err.ensures)

pub returns-in-Ok-push-2-clause-exact : goal.returns-in-Ok-push-2-clause-exact
returns-in-Ok-push-2-clause-exact c = whole c.loop-rest.invariant.read (nil_from_length _ (eqb-true _ 0 (sym c.loop-rest-test.ensures))) c.in-Ok-push-2.ensures.items

pub returns-in-Ok-push-2-clause-ended : goal.returns-in-Ok-push-2-clause-ended
returns-in-Ok-push-2-clause-ended c = ended c.args.source.now _ (whole c.loop-rest.invariant.read (nil_from_length _ (eqb-true _ 0 (sym c.loop-rest-test.ensures))) c.in-Ok-push-2.ensures.items)

pub returns-in-Ok-push-2-clause-few : goal.returns-in-Ok-push-2-clause-few
returns-in-Ok-push-2-clause-few c = reading_length c.args.source.now _ (whole c.loop-rest.invariant.read (nil_from_length _ (eqb-true _ 0 (sym c.loop-rest-test.ensures))) c.in-Ok-push-2.ensures.items)
