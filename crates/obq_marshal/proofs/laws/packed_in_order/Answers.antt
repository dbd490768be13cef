use Rattle.obq_marshal.proofs.InOrder.{in_order}
use Rattle.obq_marshal.proofs.laws.packed_in_order.Goals as goal

pub returns : goal.returns
returns c = λ meaning xs meant. in_order meaning xs meant
