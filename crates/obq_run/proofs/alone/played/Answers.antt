use Rattle.std.proofs.Common.{List, [], ap, refl, ◌++◌, ◌∙◌, ◌∷◌}
use Rattle.std.specs.Global.{Vec}
use Rattle.obq_run.proofs.Ended.{run_of}
use Rattle.obq_run.proofs.alone.played.Goals as goal

pub returns : goal.returns
returns c = λ blocks turns h. run_of blocks turns c.args.ended _ h refl refl (c.in_ok-push.ensures.items ∙ ap (λ (xs : List (Vec _)). xs ++ c.args.ended.text ∷ []) c.new-texts.ensures.items)
