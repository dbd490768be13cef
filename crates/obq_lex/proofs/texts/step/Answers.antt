use Rattle.std.proofs.Common.{sym, arith}
use Rattle.obq_lex.proofs.Texted.{content_plain, refused_high, refused_stray}
use Rattle.obq_lex.proofs.texts.step.Goals as goal

pub returns-then-is_plain : goal.returns-then-is_plain
returns-then-is_plain c = content_plain c.in-Some.b c.args.x.now c.in-Some.after.now (sym c.if-is_plain.ensures) c.in-Some.ensures

pub returns-then-b-ge128 : goal.returns-then-b-ge128
returns-then-b-ge128 c = refused_high c.in-Some.b c.args.x.now c.in-Some.after.now (omega arith) c.in-Some.ensures

pub returns : goal.returns
returns c = refused_stray c.in-Some.b c.args.x.now c.in-Some.after.now (omega arith) (sym c.if-is_plain.ensures) c.if-b-eq10.false c.if-b-eq34.false c.if-b-eq92.false c.in-Some.ensures
