use Rattle.std.proofs.Common.{List, subst}
use Rattle.std.specs.List.{AllByRecursion}
use Rattle.obq_wire.specs.declared.order.Begun.{Begun}
use Rattle.obq_wire.specs.Walk.{IsBegun}
use Rattle.obq_wire.proofs.WalkLaws.{all_last, root_had, root_new}
use Rattle.obq_wire.proofs.order.climb.Goals as goal

pub returns-then-root-count : goal.returns-then-root-count
returns-then-root-count c = root_had c.args.table.now c.args.count c.args.root c.requires.root c.if-root-count.true

pub loop-init : goal.loop-init
loop-init c = rw (c.in_ok-push.ensures.items, c.new-begun.ensures.items) (record {
  placed_so_far = root_new c.args.table.now c.args.count c.args.root c.requires.root c.if-root-count.false;
  fit = (c.requires.earlier c.args.root, tt);
})

pub step-requires-clause-innermost : goal.step-requires-clause-innermost
step-requires-clause-innermost c =
    all_last (IsBegun c.args.table.now) c.pop.new.self.items c.in-Some.innermost
    (subst (λ (bs : List Begun). AllByRecursion (IsBegun c.args.table.now) bs) c.in-Some.ensures.items c.loop.invariant.fit)
