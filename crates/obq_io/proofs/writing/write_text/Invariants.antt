use Rattle.std.proofs.Common.{◌≤◌, ◌-◌, length, take}
use Rattle.std.specs.Io.KnownBytes.{Appends}
use Rattle.obq_io.proofs.writing.write_text.Given as goal

abbrev pub invariant-loop-at : goal.invariant-loop-at
invariant-loop-at g l =
    let sink = g.S.Sink in
    record {
      within : l.at ≤ length l.text;
      got : Appends (sink.written l.fn.sink) (sink.written l.sink) (take l.at l.text);
      later : sink.faults l.fn.sink ≤ sink.faults l.sink;
    }

abbrev pub decreases-loop-at : goal.decreases-loop-at
decreases-loop-at g l = length l.text - l.at
