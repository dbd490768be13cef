use Rattle.std.proofs.Common.{◌≡◌, ◌^◌, ◌+◌, ◌*◌, ◌-◌, ◌≤◌, drop}
use Rattle.std.specs.Prelude.{fold}
use Rattle.obq_model.specs.Tokens.{magnitude}
use Rattle.obq_lex.proofs.numbers.magnitude.Given as goal

abbrev pub invariant-loop-d : goal.invariant-loop-d
invariant-loop-d l = record {
  value : fold (λ n d. 10 * n + (d - 48)) l.value (drop l.d-index l.digits) ≡ magnitude l.digits;
  small : l.value ≤ 2 ^ 63 + 1000;
}
