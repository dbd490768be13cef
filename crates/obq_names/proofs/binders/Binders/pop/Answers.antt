use Rattle.std.proofs.Common.{rules}
use Rattle.obq_names.proofs.Placed.{indexed_pop}
use Rattle.obq_names.proofs.binders.Binders.pop.Goals as goal

pub invariant_of-self-2 : goal.invariant_of-self-2
invariant_of-self-2 c = λ h. indexed_pop c.self.inside.places.map c.restore-self-inside.new.self.map c.pop-2.new.self.items c.self.inside.earlier.items c.pop.new.self.items c.self.inside.names.items c.in-Some.name _ c.in-Some-pop.before
    (c.self.invariant c.if-not-indexed.false) c.as_bytes.ensures c.in-Some-pop.ensures.items c.in-Some.ensures.items (c.restore-self-inside.ensures.restored (search (rules, h)))
