use Rattle.std.proofs.Common.{take, ◌≡◌}
use Rattle.obq_model.specs.Replay.{output}
use Rattle.obq_run.specs.Played.{texts_of}
use Rattle.obq_run.proofs.outcome.texts_of.Given as goal

abbrev pub invariant-loop-site : goal.invariant-loop-site
invariant-loop-site l = record { copied : texts_of l.texts.items ≡ take l.site (output l.machine.sites l.machine.config) }
