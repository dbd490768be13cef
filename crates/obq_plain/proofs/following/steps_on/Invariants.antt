use Rattle.std.proofs.Common.{◌-◌, ◌≡◌}
use Rattle.obq_links.specs.Sited.{with_replies}
use Rattle.obq_model.specs.Located.{activations_of}
use Rattle.obq_model.specs.Replay.{after_pure}
use Rattle.obq_plain.specs.Following.{steps_on}
use Rattle.obq_plain.proofs.following.steps_on.Given as goal

abbrev pub invariant-loop : goal.invariant-loop
invariant-loop l = record {
  last : after_pure (l.count - l.counter) l.term ≡ after_pure l.count l.fn.term;
  onward : steps_on (l.count - l.counter) l.term (l.trail, l.sites.replies) ≡ steps_on l.count l.fn.term (l.fn.trail, l.fn.sites.replies);
  sited : l.sites ≡ with_replies l.sites.replies l.fn.sites;
  counted : l.before ≡ activations_of l.term;
}
