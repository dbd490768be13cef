use Rattle.std.proofs.lemmas.Result.{IfOk-weaker}
use Rattle.obq_host.proofs.Refocused.{forked}
use Rattle.obq_host.proofs.threads.fork_thread.Goals as goal

pub returns : goal.returns
returns c = IfOk-weaker c.put_two.result _ _ (λ made k w here. forked _ _ _ _ _ w _ _ _ _ made c.in-Some.ensures.taken c.in-Some.ensures.rest c.in_ok-window.ensures k here) c.put_two.ensures
