use Rattle.obq_host.proofs.Trying.{has_joined, is_waiting}
use Rattle.obq_host.proofs.host.Host.join_with.Goals as goal

pub returns-then-branch : goal.returns-then-branch
returns-then-branch c due = has_joined _ _ _ _ _ _ _ c.act.ensures c.in_ok-join.ensures c.if-branch.true due

pub returns-else-branch : goal.returns-else-branch
returns-else-branch c due = is_waiting _ _ _ _ _ _ c.in_ok-join.ensures c.if-branch.false due
