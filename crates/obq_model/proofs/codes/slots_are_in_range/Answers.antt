use Rattle.obq_model.proofs.Slots.{slot_innermost, slot_within}
use Rattle.obq_model.proofs.codes.slots_are_in_range.Goals as goal

pub returns : goal.returns
returns c = λ o locals x. (slot_within o locals x, slot_innermost o locals x)
