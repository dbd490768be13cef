use Rattle.obq_host.proofs.Trying.{has_forked, has_no_room}
use Rattle.obq_host.proofs.host.Host.fork_off.Goals as goal

pub returns-then-branch : goal.returns-then-branch
returns-then-branch c due = has_forked _ _ _ _ _ _ _ c.act.ensures c.in_ok-fork.ensures c.if-branch.true due

pub returns-else-branch : goal.returns-else-branch
returns-else-branch c due = has_no_room _ _ _ _ _ _ _ c.act-else-branch.ensures c.in_ok-fork.ensures c.if-branch.false due
