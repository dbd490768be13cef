use Rattle.std.proofs.Common.{◌∙◌}
use Rattle.obq_wire.specs.Seen.{has_seen}
use Rattle.obq_wire.proofs.SeenLaws.{seen_more}
use Rattle.obq_wire.proofs.misplaced.is_new.Goals as goal

pub returns-clause-seen : goal.returns-clause-seen
returns-clause-seen c = λ h. c.in_ok-insert.ensures.updates.0 (h.thread, h.n) ∙ seen_more c.args.g h (has_seen c.args.seen.now h)
