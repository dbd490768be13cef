use Rattle.std.proofs.Common.{◌+◌, drop, ap, arith}
use Rattle.std.specs.Prelude.{fold, get_or}
use Rattle.std.proofs.lemmas.List.{drop_more}
use Rattle.obq_lex.proofs.Digits.{more, grows}
use Rattle.obq_lex.proofs.numbers.magnitude.Goals as goal

pub returns-then-value : goal.returns-then-value
returns-then-value c =
    let ds = c.args.digits.now in
    let i = c.loop-d.d-index in
    let e = ap (fold more c.loop-d.value) (drop_more ds i 0 (omega arith)) in
    let h = grows (more c.loop-d.value (get_or ds i 0)) (drop (i + 1) ds) in
    omega (arith, c.loop-d.invariant.value, e, h)
