use Rattle.std.proofs.Common.{◌∷◌, length, sym, ap, arith, subst, inl, inr}
use Rattle.std.proofs.lemmas.List.{length_push}
use Rattle.obq_model.specs.Tokens.{IsContent, nothing, long_text}
use Rattle.obq_model.proofs.Contents.{content_append, content_length}
use Rattle.obq_lex.proofs.Texted.{line_open, end_open}
use Rattle.obq_lex.proofs.texts.read_text.Goals as goal

pub loop-byte-init : goal.loop-byte-init
loop-byte-init c = record {
  content = subst (λ v. IsContent v c.args.x.now c.args.x.now) (sym c.new-bytes.ensures.items) nothing;
  short = let e = ap length c.new-bytes.ensures.items in omega arith;
}

pub returns-then-len-eq-TEXT_LIMIT : goal.returns-then-len-eq-TEXT_LIMIT
returns-then-len-eq-TEXT_LIMIT c =
    let i = c.loop-byte.invariant in
    (34 ∷ c.args.x.now, long_text (content_append i.content c.in-Byte.ensures) (omega (arith, length_push c.loop-byte.bytes.items c.in-Byte.byte, c.len.ensures, c.if-len-eq-TEXT_LIMIT.true)), omega arith)

pub returns-in-Open : goal.returns-in-Open
returns-in-Open c =
    let i = c.loop-byte.invariant in
    let v = c.loop-byte.bytes.items in
    let x = c.args.x.now in
    let rest = c.loop-byte.rest.now in
    (34 ∷ x, elim c.in-Open.ensures [ inl e ↦ end_open v x rest i.content i.short e | inr e ↦ line_open v x rest e.0 i.content i.short e.1 ], omega arith)

pub loop-byte-smaller : goal.loop-byte-smaller
loop-byte-smaller c = let n = content_length c.in-Byte.ensures in omega arith

pub loop-byte-preserved : goal.loop-byte-preserved
loop-byte-preserved c =
    let i = c.loop-byte.invariant in
    let e = c.in-Ok.ensures.items in
    record {
      content = subst (λ v. IsContent v c.args.x.now c.in-Byte.after.now) (sym e) (content_append i.content c.in-Byte.ensures);
      short = let n = ap length e in omega (arith, length_push c.loop-byte.bytes.items c.in-Byte.byte, c.len.ensures, c.if-len-eq-TEXT_LIMIT.false);
    }
