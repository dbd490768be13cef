-- A run of one source that is over is what a run of blocks is.
use Rattle.std.proofs.Common.{List, [], ap, sym, ℕ, ◌∷◌, ◌≡◌, ◌∙◌}
use Rattle.obq_base.specs.Tree.{BlockTree}
use Rattle.obq_model.specs.Replay.{report}
use Rattle.obq_run.specs.Played.{IsRun, texts_of}
use Rattle.obq_run.specs.declared.playing.Played.{Played}
use Rattle.obq_world.specs.Ends.{IsEndOf}
use Rattle.obq_world.specs.declared.running.Ended.{Ended}

pub run_of : (blocks : List BlockTree) (turns : ℕ) (ended : Ended) (played : Played) → IsEndOf blocks turns ended → played.journal ≡ ended.journal → played.outcome.report ≡ ended.report
    → played.outcome.texts.items ≡ ended.text ∷ [] → IsRun blocks turns played
run_of blocks turns ended played h journal report texts = record {
  is_played = record {
    last = h.last;
    replays = rw (journal, h.turn_limit) h.replays;
    over = rw (journal, h.turn_limit) h.over;
    written = h.written ∙ sym (ap texts_of texts);
    reported = rw (journal, h.turn_limit) (h.reported ∙ sym report);
  };
  turn_limit = rw journal h.turn_limit;
  each = rw journal h.each;
}
