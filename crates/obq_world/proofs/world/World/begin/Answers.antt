use Rattle.std.proofs.Common.{ap, subst, sym, ◌∙◌}
use Rattle.obq_model.specs.Replay.{TakeTurns}
use Rattle.obq_world.proofs.Begun.{on_begin}
use Rattle.obq_world.proofs.world.World.begin.Goals as goal

pub invariant_of-result : goal.invariant_of-result
invariant_of-result g c = (
  on_begin g.M.Machine.meaning g.J.Naming.program g.J.Naming.sites g.J.Naming.turns c.args.turns c.in_ok-site.site c.push.new.self.items c.new.result.entries c.requires.sites.0 c.requires.sites.1 c.requires.turns.0 c.requires.turns.1
      c.in_ok-site.ensures (rw c.new-slots.ensures.items at c.in_ok-push.ensures.items) (ap (λ j. j.entries) c.new.ensures),
  ap (λ j. j.turns) c.new.ensures ∙ c.requires.turns.0,
  c.requires.codes,
  c.requires.sites.1,
  subst TakeTurns (sym (ap (λ j. j.entries) c.new.ensures)) tt,
)
