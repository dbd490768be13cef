use Rattle.std.proofs.Common.{◌∙◌, ap, sym}
use Rattle.obq_scope.specs.Coded.{first_of}
use Rattle.obq_scope.proofs.Passed.{first_none, first_some}
use Rattle.obq_scope.proofs.ahead.Ahead.first.Goals as goal

pub returns-in-None : goal.returns-in-None
returns-in-None c = sym (first_none c.self.inside.lists c.self.inside.next (sym c.in-None.ensures.value)) ∙ ap first_of c.self.view_is

pub returns-in-Some : goal.returns-in-Some
returns-in-Some c = c.as_slice.ensures ∙ sym (first_some c.self.inside.lists c.self.inside.next _ (sym c.in-Some.ensures.value)) ∙ ap first_of c.self.view_is
