use Rattle.std.proofs.Common.{arith, rules}
use Rattle.obq_names.proofs.Placed.{indexed_push}
use Rattle.obq_names.proofs.binders.Binders.push.Goals as goal

pub invariant_of-self-2 : goal.invariant_of-self-2
invariant_of-self-2 c = λ h. indexed_push c.self.inside.places.map c.insert.new.self.map c.self.inside.earlier.items _ c.self.inside.names.items _ c.args.name _ c.in_ok-before.before c.len-place.result
    (c.self.invariant h) c.as_bytes.ensures (omega (arith, c.len-place.ensures)) c.in_ok-before.ensures.now c.in_ok-before.ensures.before (search rules) (search rules)
