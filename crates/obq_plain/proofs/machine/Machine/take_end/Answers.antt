use Rattle.std.proofs.Common.{Some, ap, option_map, sym, ◌∙◌}
use Rattle.obq_base.specs.declared.acts.ActKind.{ActKind}
use Rattle.obq_model.specs.Config as config
use Rattle.obq_plain.proofs.Taken.{ended, in_range}
use Rattle.obq_plain.specs.PlainStates.{why_of}
use Rattle.obq_plain.specs.Taking.{why_ahead}
use Rattle.obq_plain.specs.Threads.{execution_of, machine_of}
use Rattle.obq_plain.proofs.machine.Machine.take_end.Goals as goal

pub returns-in-None-clause-cases : goal.returns-in-None-clause-cases
returns-in-None-clause-cases c = λ u.
    let k = machine_of c.args.self.now in
    ended c.args.act k c.args.thread c.args.used (config.Running u) (execution_of c.args.ended) (in_range k.threads c.args.thread c.requires.runs)
    (ap (λ l. why_ahead c.args.act (Some (config.act ActKind.End l))) (sym c.from.ensures) ∙ sym c.why_ahead.ensures ∙ ap (option_map why_of) c.in-None.is)
    ∙ ap Some (sym c.set_thread.ensures.set)
