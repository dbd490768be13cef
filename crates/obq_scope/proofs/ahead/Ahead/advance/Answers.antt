use Rattle.std.proofs.Common.{◌≡◌, ◌∙◌, ◌+◌, suc, ap, drop, arith}
use Rattle.obq_scope.specs.Coded.{behind}
use Rattle.obq_scope.proofs.Passed.{behind_passed}
use Rattle.obq_scope.proofs.ahead.Ahead.advance.Goals as goal

pub returns-then-self-len : goal.returns-then-self-len
returns-then-self-len c =
    let e : c.self.inside.next + 1 ≡ suc c.self.inside.next = omega arith in
    ap (λ k. drop k c.self.inside.lists) e ∙ behind_passed c.self.inside.lists c.self.inside.next ∙ ap behind c.self.view_is
