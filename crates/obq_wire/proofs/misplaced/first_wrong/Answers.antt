use Rattle.std.proofs.Common.{◌≡◌, ◌∙◌, ℕ, false, sym, subst}
use Rattle.obq_wire.specs.Order.{is_needed_there}
use Rattle.obq_wire.proofs.AscendingLaws.{ascending_misplaced}
use Rattle.obq_wire.proofs.SeenLaws.{misplaced_here}
use Rattle.obq_wire.proofs.misplaced.first_wrong.Goals as goal

pub returns-then-k-agreed-clause-wrong : goal.returns-then-k-agreed-clause-wrong
returns-then-k-agreed-clause-wrong c = λ needed agrees.
    sym (misplaced_here needed c.args.table.now c.loop-k.k c.loop-k-test.true (subst (λ (k : ℕ). is_needed_there needed k ≡ false) (sym c.if-k-agreed.true) agrees.there))
    ∙ c.loop-k.invariant.right_so_far needed agrees

pub returns-then-ascend-clause-wrong : goal.returns-then-ascend-clause-wrong
returns-then-ascend-clause-wrong c = λ needed agrees.
    c.first_needless.ensures ∙ sym (ascending_misplaced needed c.args.agreed c.args.table.now agrees (sym c.ascend.ensures ∙ c.if-ascend.true))
