use Rattle.std.proofs.Common.{ap, subst, sym, ◌∙◌}
use Rattle.obq_model.specs.Config as config
use Rattle.obq_model.specs.Effect as model
use Rattle.obq_plain.proofs.Taken.{in_range, next_effect, then_some}
use Rattle.obq_plain.specs.Taking.{ActCases, ThenCases, put_thread}
use Rattle.obq_plain.specs.Threads.{machine_of}
use Rattle.obq_plain.proofs.machine.Machine.take_ready.Goals as goal

pub returns-in_ok-found-in-Some-clause-cases : goal.returns-in_ok-found-in-Some-clause-cases
returns-in_ok-found-in-Some-clause-cases c =
    let k = machine_of c.args.self.now in
    let kk = put_thread k c.args.thread (config.Running c.args.ready.term) c.args.ready.used in
    let result = c.take_found.result in
    let new = machine_of c.take_found.new.self in
    let there = next_effect k c.args.thread c.args.ready.used c.args.ready.term (in_range k.threads c.args.thread c.requires.runs) ∙ ap (model.effect_of kk c.args.thread) (sym c.in_ok-found-in-Some.ensures) in
    subst (λ a. ThenCases a c.args.thread kk k result new) (sym c.in-Some.is)
    (then_some result c.in-Some.act c.args.thread kk k new (subst (λ e. ActCases c.in-Some.act c.args.thread e k result new) (sym there) (c.take_found.ensures.cases c.args.ready.term)))
