use Rattle.std.proofs.Common.{ap, ◌∙◌}
use Rattle.obq_model.specs.Effect as model
use Rattle.obq_reduce.specs.Founds.{operation_of}
use Rattle.obq_store.specs.Cells.{self_of}
use Rattle.obq_plain.specs.Ahead.{act_of}
use Rattle.obq_plain.specs.Taking.{why_ahead}
use Rattle.obq_plain.specs.Threads.{config_of, machine_of}
use Rattle.obq_plain.proofs.machine.Machine.why_operation.Goals as goal

pub returns : goal.returns
returns c =
    c.why_ahead.ensures
    ∙ ap (why_ahead c.args.act) (c.act_ahead-ahead.ensures ∙ ap (λ ts. act_of (model.perform (config_of c.args.self.now.store ts) c.args.thread (self_of c.self_at-current.result) (operation_of c.args.operation.now))) c.deref.ensures.value ∙ ap (λ s. act_of (model.perform (machine_of c.args.self.now) c.args.thread s (operation_of c.args.operation.now))) c.self_at-current.ensures)
