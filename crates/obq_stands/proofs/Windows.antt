-- The blocks opened over references are windows that read back as the blocks.
use Rattle.std.specs.Prelude.{List, [], ◌∷◌, ℕ, suc}
use Rattle.std.proofs.Common.{ap, ◌∙◌}
use Rattle.obq_base.specs.Tree.{BlockTree}
use Rattle.obq_model.specs.Opening.{block_term}
use Rattle.obq_model.proofs.NaturalOpening.{natural_opening}
use Rattle.obq_stands.specs.Events.{writer_at, Opens, windows}

pub opens : (k : ℕ) (bs : List BlockTree) → Opens k (windows k bs) bs
opens k [] = tt
opens k (b ∷ bs) = ((λ f e. natural_opening f (writer_at k) [] b ∙ ap (λ r. block_term r [] b) e), opens (suc k) bs)
