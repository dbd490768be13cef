use Rattle.std.proofs.Common.{length, ◌≡◌}
use Rattle.obq_plain.specs.Holes.{plugged}
use Rattle.obq_plain.proofs.holes.plug.Given as goal

abbrev pub invariant-loop-frame : goal.invariant-loop-frame
invariant-loop-frame l = plugged l.frames l.whole ≡ plugged l.fn.frames l.fn.term

abbrev pub decreases-loop-frame : goal.decreases-loop-frame
decreases-loop-frame l = length l.frames
