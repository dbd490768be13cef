use Rattle.std.proofs.Common.{◌∙◌, sym}
use Rattle.obq_wire.proofs.laws.one_frame.Goals as goal

pub returns : goal.returns
returns c = λ p x y s t. s.bytes_are ∙ sym t.bytes_are
