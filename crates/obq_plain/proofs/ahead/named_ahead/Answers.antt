use Rattle.std.proofs.Common.{ap, option_map, ◌∙◌}
use Rattle.obq_reduce.specs.Founds.{operation_of}
use Rattle.obq_store.specs.Cells.{self_of}
use Rattle.obq_plain.specs.Ahead.{act_at}
use Rattle.obq_plain.specs.Threads.{config_of}
use Rattle.obq_plain.proofs.Foreseen.{act_named}
use Rattle.obq_plain.proofs.ahead.named_ahead.Goals as goal

pub returns : goal.returns
returns c =
    c.at.ensures
    ∙ ap (option_map (act_at c.args.number)) c.kind_at-kind.ensures
    ∙ act_named (config_of c.args.store.now c.args.threads.now) c.args.thread (self_of c.args.current) (operation_of c.args.operation.now) c.args.number c.requires
