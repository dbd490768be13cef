use Rattle.std.proofs.Common.{[], length, ℕ, ◌≡◌}
use Rattle.obq_model.specs.Step.{plug}
use Rattle.obq_model.specs.Terms as m
use Rattle.obq_plain.specs.Holes.{plugged}
use Rattle.obq_reduce.specs.Founds.{around}
use Rattle.obq_plain.proofs.holes.all_occupied.Given as goal

abbrev pub invariant-loop-frame : goal.invariant-loop-frame
invariant-loop-frame l = (t : m.Term ℕ) → plugged l.all (plug (around l.frames []) t) ≡ plug (around l.fn.frames []) t

abbrev pub decreases-loop-frame : goal.decreases-loop-frame
decreases-loop-frame l = length l.frames
