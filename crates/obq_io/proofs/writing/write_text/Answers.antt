use Rattle.std.proofs.Common.{length, take, drop, ap, arith, length-drop}
use Rattle.std.proofs.Math.Seq.{take-add}
use Rattle.std.specs.Io.KnownBytes.{Appends}
use Rattle.obq_io.proofs.Told.{appends_more, rest_is}
use Rattle.obq_io.proofs.writing.write_text.Goals as goal

pub loop-at-preserved : goal.loop-at-preserved
loop-at-preserved g c =
    let sink = g.S.Sink in
    let at = c.loop-at.at in
    let n = c.in_ok-count.count in
    let text = c.args.text.now in
    let wrote : Appends (sink.written c.loop-at.sink) (sink.written c.write.new.self) (take n (drop at text)) = rw (rest_is at text) at c.in_ok-count.ensures.bytes in
    record {
      within = omega (arith, c.in_ok-count.ensures.bound, ap length (rest_is at text), length-drop at text);
      got = rw (take-add at n text) (appends_more (sink.written c.args.sink.now) (sink.written c.loop-at.sink) (sink.written c.write.new.self) (take at text) (take n (drop at text)) c.loop-at.invariant.got wrote);
      later = omega (arith, c.loop-at.invariant.later, c.in_ok-count.ensures.cause.later);
    }
