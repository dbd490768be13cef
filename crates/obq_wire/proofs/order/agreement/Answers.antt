use Rattle.std.proofs.Common.{◌≡◌, [], List, length, get_or, drop, suc, ℕ, subst, drop-cons, sym}
use Rattle.std.proofs.lemmas.List.{drop_all}
use Rattle.std.specs.Prelude.{fold}
use Rattle.obq_wire.specs.Order.{order, placed}
use Rattle.obq_wire.specs.Walk.{numbers_below}
use Rattle.obq_wire.proofs.WalkLaws.{agrees_all, agrees_later}
use Rattle.obq_wire.proofs.order.agreement.Goals as goal

pub returns-in-Other : goal.returns-in-Other
returns-in-Other c =
    let table = c.args.table.now in
    let roots = c.args.roots.now in
    let i = c.loop-root.root-index in
    let f = placed table (length table) in
    let xs = numbers_below c.loop-root.count in
    agrees_later table (length table) c.in-Other.next (get_or roots i 0) xs (drop (suc i) roots) (order table roots)
    (rw c.in-Other.is at c.in_ok-next.ensures)
    (subst (λ (is : List ℕ). fold f xs is ≡ order table roots) (drop-cons roots i 0 c.loop-root-test.true) c.loop-root.invariant)

pub returns : goal.returns
returns c =
    let table = c.args.table.now in
    let roots = c.args.roots.now in
    let none : drop c.loop-root.root-index roots ≡ [] = drop_all c.loop-root.root-index roots c.loop-root-test.false in
    agrees_all c.loop-root.count (order table roots)
    (sym (subst (λ (is : List ℕ). fold (placed table (length table)) (numbers_below c.loop-root.count) is ≡ order table roots) none c.loop-root.invariant))
