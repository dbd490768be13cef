use Rattle.std.proofs.Common.{w64, SFits, refl, sym, ap, ◌∙◌, subst, rules}
use Rattle.std.proofs.lemmas.Int.{to_z-of_z}
use Rattle.obq_base.specs.declared.tokens.TokenKind.TheVariants as t
use Rattle.obq_model.specs.Tokens.{Number}
use Rattle.obq_lex.specs.Scans.{Fails}
use Rattle.obq_lex.proofs.Spelled.{digits_cut, cut_real, cut_range, cut_token}
use Rattle.obq_lex.proofs.pieces.number_at.Goals as goal

pub returns-then-begins_fraction : goal.returns-then-begins_fraction
returns-then-begins_fraction c =
    let s = c.split_at in
    let d = digits_cut c.args.minus _ c.args.x.now c.args.digits.now s.result.0.now s.result.1.now c.requires.signed c.requires.digit s.ensures.front s.ensures.back c.digits_len.ensures.all c.digits_len.ensures.ends in
    subst (λ f. Fails c.args.x.now f) (sym c.fault_at.ensures) (c.args.x.now, cut_real c.args.minus d (sym c.if-begins_fraction.ensures), refl)

pub returns-in-Some : goal.returns-in-Some
returns-in-Some c =
    let s = c.split_at in
    let d = digits_cut c.args.minus _ c.args.x.now c.args.digits.now s.result.0.now s.result.1.now c.requires.signed c.requires.digit s.ensures.front s.ensures.back c.digits_len.ensures.all c.digits_len.ensures.ends in
    let token = cut_token c.args.minus d (sym c.if-begins_fraction.ensures) c.in-Some.ensures.0 in
    (Number c.args.minus s.result.0.now, token, ap t.Int (to_z-of_z w64 c.in-Some.value (let f : SFits w64 c.in-Some.value = search rules in f) ∙ c.in-Some.ensures.1))

pub returns-in-None : goal.returns-in-None
returns-in-None c =
    let s = c.split_at in
    let d = digits_cut c.args.minus _ c.args.x.now c.args.digits.now s.result.0.now s.result.1.now c.requires.signed c.requires.digit s.ensures.front s.ensures.back c.digits_len.ensures.all c.digits_len.ensures.ends in
    subst (λ f. Fails c.args.x.now f) (sym c.fault_at-in-None.ensures) (c.args.x.now, cut_range c.args.minus d (sym c.if-begins_fraction.ensures) c.in-None.ensures, refl)
