use Rattle.std.proofs.Common.{Some, subst, sym, ◌≡◌}
use Rattle.obq_model.specs.Effect as model
use Rattle.obq_reduce.specs.Founds.{operation_of}
use Rattle.obq_plain.specs.Ahead.{act_of}
use Rattle.obq_plain.specs.Threads.{config_of}
use Rattle.obq_plain.proofs.ahead.elsewhere_ahead.Goals as goal

pub returns-in-Again : goal.returns-in-Again
returns-in-Again c = λ s.
    subst (λ op. c.again_ahead.result ≡ act_of (model.perform (config_of c.args.store.now c.args.threads.now) c.args.thread s (operation_of op))) (sym c.in-Again.is) (c.again_ahead.ensures s)

pub returns-in-Import : goal.returns-in-Import
returns-in-Import c = λ s.
    subst (λ op. c.import_ahead.result ≡ act_of (model.perform (config_of c.args.store.now c.args.threads.now) c.args.thread s (operation_of op))) (sym c.in-Import.is) (c.import_ahead.ensures c.args.thread s)

pub returns-in-ForkOff : goal.returns-in-ForkOff
returns-in-ForkOff c = λ s.
    subst (λ op. Some c.fork_ahead.result ≡ act_of (model.perform (config_of c.args.store.now c.args.threads.now) c.args.thread s (operation_of op))) (sym c.in-ForkOff.is) (c.fork_ahead.ensures c.args.thread s)

pub returns-in-JoinWith : goal.returns-in-JoinWith
returns-in-JoinWith c = λ s.
    subst (λ op. c.join_ahead.result ≡ act_of (model.perform (config_of c.args.store.now c.args.threads.now) c.args.thread s (operation_of op))) (sym c.in-JoinWith.is) (c.join_ahead.ensures c.args.thread s)
