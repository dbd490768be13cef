use Rattle.std.proofs.Common.{refl}
use Rattle.obq_grammar.proofs.failing.Items.{no_target_fails}
use Rattle.obq_grammar.proofs.failing.Targets.{not_bare_call, not_field_call, not_item_call}
use Rattle.obq_grammar.proofs.productions.call_is_no_target.Goals as goal

pub returns : goal.returns
returns c h ss vs p q x y e = no_target_fails e refl (λ n b. not_bare_call ss vs p n) (not_field_call ss vs p) (not_item_call ss vs p)
