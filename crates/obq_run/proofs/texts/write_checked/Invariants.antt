use Rattle.std.proofs.Common.{◌≤◌, take}
use Rattle.std.specs.Io.KnownBytes.{Appends}
use Rattle.obq_model.specs.Output.{check_text}
use Rattle.obq_words.specs.Words.{names_of}
use Rattle.obq_run.proofs.texts.write_checked.Given as goal

abbrev pub invariant-loop-site : goal.invariant-loop-site
invariant-loop-site g l =
    let sink = g.S.Sink in
    record {
      got : Appends (sink.written l.fn.out) (sink.written l.out) (check_text (names_of (take l.site-index l.sites)));
      later : sink.faults l.fn.out ≤ sink.faults l.out;
    }
