use Rattle.std.proofs.Common.{ap, sym, ◌∙◌}
use Rattle.obq_model.specs.Replay.{after_pure}
use Rattle.obq_plain.proofs.Taken.{is_ready}
use Rattle.obq_plain.proofs.taking.ready_with.Goals as goal

pub returns : goal.returns
returns c = λ k there.
    is_ready c.args.turns k c.args.entry c.args.term.now c.args.used there c.in-Some.term c.from.result c.from.ensures (sym c.passes.ensures ∙ c.if-passes.false)
    (ap (after_pure c.args.entry.pure) (sym c.in_ok-term.ensures) ∙ sym c.in_ok-term-2.ensures ∙ c.in-Some.is)
