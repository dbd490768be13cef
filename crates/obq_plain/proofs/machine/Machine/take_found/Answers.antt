use Rattle.std.proofs.Common.{subst, sym}
use Rattle.obq_model.specs.Config as config
use Rattle.obq_model.specs.Effect as model
use Rattle.obq_reduce.specs.Founds.{found_of}
use Rattle.obq_plain.specs.Taking.{ActCases, put_thread}
use Rattle.obq_plain.specs.Threads.{machine_of}
use Rattle.obq_plain.proofs.machine.Machine.take_found.Goals as goal

pub returns-in-Needs-clause-cases : goal.returns-in-Needs-clause-cases
returns-in-Needs-clause-cases c = λ u.
    let k = machine_of c.args.self.now in
    subst (λ f. ActCases c.args.act c.args.thread (model.effect_of (put_thread k c.args.thread (config.Running u) c.args.used) c.args.thread (found_of f)) k c.take_operation-taken.result (machine_of c.take_operation-taken.new.self))
    (sym c.in-Needs.is) (c.take_operation-taken.ensures.cases u)
