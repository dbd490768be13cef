use Rattle.std.proofs.Common.{◌≤◌, take}
use Rattle.std.specs.List.{flat_map}
use Rattle.std.specs.Io.KnownBytes.{Appends}
use Rattle.obq_io.proofs.writing.write_pieces.Given as goal

abbrev pub invariant-loop-piece : goal.invariant-loop-piece
invariant-loop-piece g l =
    let sink = g.S.Sink in
    record {
      got : Appends (sink.written l.fn.sink) (sink.written l.sink) (flat_map (λ p. p.now) (take l.piece-index l.pieces));
      later : sink.faults l.fn.sink ≤ sink.faults l.sink;
    }
