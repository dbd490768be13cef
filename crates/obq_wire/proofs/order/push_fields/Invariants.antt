use Rattle.std.proofs.Common.{◌≡◌, ◌++◌, take}
use Rattle.std.specs.List.{flat_map}
use Rattle.obq_wire.specs.Order.{body_needs}
use Rattle.obq_wire.proofs.order.push_fields.Given as goal

abbrev pub invariant-loop-f : goal.invariant-loop-f
invariant-loop-f l = l.out.items ≡ l.fn.out.items ++ flat_map (λ f. body_needs f.body) (take l.f-index l.fields)
