use Rattle.std.proofs.Common.{[], ap, arith, length, rules, ◌∙◌, ◌≤◌}
use Rattle.std.proofs.lemmas.List.{length-map}
use Rattle.obq_model.specs.Step.{no_self, self_at}
use Rattle.obq_plain.proofs.Few.{at_ok, few}
use Rattle.obq_plain.specs.Taking.{is_forking}
use Rattle.obq_plain.specs.Threads.{machine_of, thread_of}
use Rattle.obq_reduce.specs.Founds.{around, operation_of}
use Rattle.obq_plain.proofs.machine.Machine.act.Goals as goal

pub returns-clause-few : goal.returns-clause-few
returns-clause-few c =
    let k = machine_of c.args.self.now in
    let n = length-map c.args.self.now.threads.items thread_of in
    at_ok c.go_on.result _ (length c.args.self.now.threads.items ≤ 64 → length c.go_on.new.self.threads.items ≤ 64)
    (λ f low. f (λ h. let less = few k c.args.thread (self_at no_self (around c.args.frames [])) (operation_of c.args.operation.now) (ap is_forking (search rules) ∙ h) in omega (arith, less, n)) low)
    c.go_on.ensures.few
