use Rattle.std.proofs.Common.{ap, is_some, rules, sym, ◌∙◌, ◌||◌, nat_lt, true, ◌≡◌}
use Rattle.obq_model.specs.Step.{next_of}
use Rattle.obq_plain.proofs.Scheduled.{able_found}
use Rattle.obq_plain.specs.Scheduling.{act_found}
use Rattle.obq_plain.specs.Threads.{machine_of}
use Rattle.obq_plain.proofs.machine.Machine.is_able_with.Goals as goal

pub returns : goal.returns
returns c = λ there.
    let k = machine_of c.args.self.now in
    let less : nat_lt c.args.used c.args.turns ≡ true = search rules in
    c.moves.ensures
    ∙ ap (λ f. is_some (next_of f) || is_some (act_found k c.args.thread f)) c.in_ok-found.ensures
    ∙ sym (able_found c.args.turns k c.args.thread c.args.used c.args.term.now there less)
