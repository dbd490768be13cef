use Rattle.std.proofs.Common.{take, ◌≤◌}
use Rattle.std.specs.Io.KnownBytes.{Appends}
use Rattle.std.specs.List.{zip}
use Rattle.obq_run.specs.Played.{sites_text, texts_of}
use Rattle.obq_words.specs.Words.{names_of}
use Rattle.obq_run.proofs.texts.write_sites.Given as goal

abbrev pub invariant-loop-k : goal.invariant-loop-k
invariant-loop-k g l =
    let sink = g.S.Sink in
    record {
      got : Appends (sink.written l.fn.out) (sink.written l.out) (sites_text (take l.k (zip (names_of l.sites) (texts_of l.texts))));
      later : sink.faults l.fn.out ≤ sink.faults l.out;
    }
