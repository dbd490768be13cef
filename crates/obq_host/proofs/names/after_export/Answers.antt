use Rattle.std.proofs.lemmas.Result.{IfOk-weaker}
use Rattle.obq_host.proofs.Refocused.{refocused}
use Rattle.obq_host.proofs.names.after_export.Goals as goal

pub returns : goal.returns
returns c = IfOk-weaker c.put_at.result _ _ (λ x k w here. refocused _ _ _ _ _ w _ _ c.in-Some.ensures.taken c.in-Some.ensures.rest c.exported-window.ensures k here) c.put_at.ensures
