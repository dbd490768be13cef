use Rattle.std.proofs.Common.{Some, [], ap, option_map, refl, sym, ◌∙◌}
use Rattle.obq_model.specs.Config as config
use Rattle.obq_model.specs.Effect as model
use Rattle.obq_model.specs.Step as step
use Rattle.obq_reduce.specs.Founds.{around, operation_of}
use Rattle.obq_plain.proofs.Taken.{acted, in_range, same_perform, why_outcome}
use Rattle.obq_plain.specs.Ahead.{act_of}
use Rattle.obq_plain.specs.PlainStates.{why_of}
use Rattle.obq_plain.specs.Taking.{exactly_done, put_thread, why_ahead}
use Rattle.obq_plain.specs.Threads.{machine_of}
use Rattle.obq_plain.proofs.machine.Machine.take_operation.Goals as goal

pub returns-in-Some-clause-cases : goal.returns-in-Some-clause-cases
returns-in-Some-clause-cases c = λ u.
    let k = machine_of c.args.self.now in
    let fs = around c.args.frames [] in
    let me = step.self_at step.no_self fs in
    let op = operation_of c.args.operation.now in
    let kk = put_thread k c.args.thread (config.Running u) c.args.used in (
      why_outcome c.args.act kk c.args.thread fs (model.perform kk c.args.thread me op)
          ∙ ap (λ o. why_ahead c.args.act (act_of o)) (same_perform k c.args.thread c.args.used u me op c.requires.runs)
          ∙ ap (λ xs. why_ahead c.args.act (act_of (model.perform k c.args.thread (step.self_at step.no_self (around xs [])) op))) (sym c.as_slice.ensures)
          ∙ sym c.why_operation.ensures
          ∙ ap (option_map why_of) c.in-Some.is,
      refl,
    )

pub returns-in_ok-act-in-None-clause-cases : goal.returns-in_ok-act-in-None-clause-cases
returns-in_ok-act-in-None-clause-cases c = λ u.
    let k = machine_of c.args.self.now in
    let fs = around c.args.frames [] in
    let me = step.self_at step.no_self fs in
    let op = operation_of c.args.operation.now in
    let kk = put_thread k c.args.thread (config.Running u) c.args.used in
    ap (λ o. exactly_done c.args.act c.args.thread (model.after_outcome kk c.args.thread fs o)) (same_perform k c.args.thread c.args.used u me op c.requires.runs)
    ∙ acted c.args.act k c.args.thread c.args.used (config.Running u) fs (model.perform k c.args.thread me op) (in_range k.threads c.args.thread c.requires.runs)
    (ap (λ xs. why_ahead c.args.act (act_of (model.perform k c.args.thread (step.self_at step.no_self (around xs [])) op))) (sym c.as_slice.ensures)
    ∙ sym c.why_operation.ensures
    ∙ ap (option_map why_of) c.in-None.is)
    ∙ ap Some (sym c.in_ok-act-in-None.ensures.ok)
