use Rattle.obq_host.proofs.Trying.{has_imported, is_seeking}
use Rattle.obq_host.proofs.host.Host.import_name.Goals as goal

pub returns-then-branch : goal.returns-then-branch
returns-then-branch c due = has_imported _ _ _ _ _ _ _ _ c.act.ensures c.in_ok-import.ensures c.if-branch.true due

pub returns-else-branch : goal.returns-else-branch
returns-else-branch c due = is_seeking _ _ _ _ _ _ _ c.in_ok-import.ensures c.if-branch.false due
