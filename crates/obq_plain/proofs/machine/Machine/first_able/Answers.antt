use Rattle.std.proofs.Common.{arith, false, true, ◌∙◌, sym, ◌≡◌}
use Rattle.std.proofs.lemmas.List.{length-map}
use Rattle.obq_model.specs.Replay.{is_able}
use Rattle.obq_plain.proofs.Scheduled.{first_here, first_past}
use Rattle.obq_plain.specs.Threads.{machine_of, thread_of}
use Rattle.obq_plain.proofs.machine.Machine.first_able.Goals as goal

pub returns-then-branch : goal.returns-then-branch
returns-then-branch c =
    let k = machine_of c.args.self.now in
    let n = length-map c.args.self.now.threads.items thread_of in
    let able : is_able c.args.turns k c.loop-thread.thread ≡ true = sym c.in_ok-is_able.ensures ∙ c.if-branch.true in
    first_here c.args.turns k c.loop-thread.thread _ (omega (arith, n, c.loop-thread-test.true, c.len-count.ensures)) able c.loop-thread.invariant

pub loop-thread-preserved : goal.loop-thread-preserved
loop-thread-preserved c =
    let k = machine_of c.args.self.now in
    let n = length-map c.args.self.now.threads.items thread_of in
    let able : is_able c.args.turns k c.loop-thread.thread ≡ false = sym c.in_ok-is_able.ensures ∙ c.if-branch.false in
    first_past c.args.turns k c.loop-thread.thread _ (omega (arith, n, c.loop-thread-test.true, c.len-count.ensures)) able c.loop-thread.invariant
