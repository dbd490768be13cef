-- The term of a source's block without an unbound name is closed.
use Rattle.std.specs.Prelude.{Bool, [], false, refl, true, ◌≡◌}
use Rattle.std.proofs.Common.{ap, sym, ◌∙◌, true≢false}
use Rattle.obq_base.specs.Tree.{BlockTree}
use Rattle.obq_model.specs.Depth.{deepest}
use Rattle.obq_model.specs.Occurrences.{unbound}
use Rattle.obq_model.specs.Opened.{open_block}
use Rattle.obq_model.specs.Opening.{block_term}
use Rattle.obq_model.specs.Reading.{occurs}
use Rattle.obq_model.specs.Scopes.{outermost}
use Rattle.obq_model.specs.Terms.{Bytes}
use Rattle.obq_model.proofs.Occurring.{only_block}
use Rattle.obq_model.proofs.Opens.{opens_as}

pub closed : {R : Type 0} → (w : R) (tree : BlockTree) → unbound tree ≡ [] → (x : Bytes) → occurs x (block_term w [] tree) ≡ false
closed w tree e x = ap (occurs x) (sym (opens_as w 0 tree e)) ∙ at (occurs x (open_block w (outermost 0) [] tree)) refl where
  at : (b : Bool) → occurs x (open_block w (outermost 0) [] tree) ≡ b → b ≡ false
  at false q = refl
  at true q = absurd (true≢false (sym ((only_block w (outermost 0) [] tree).only x q)))

-- no closure stands in it
pub flat : {R : Type 0} → (w : R) (tree : BlockTree) → unbound tree ≡ [] → deepest (block_term w [] tree) ≡ 0
flat w tree e = ap deepest (sym (opens_as w 0 tree e)) ∙ (only_block w (outermost 0) [] tree).flat
