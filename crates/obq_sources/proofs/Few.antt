-- Accepted sources have narrow object literals, so their threads make few closures.
use Rattle.std.specs.Prelude.{List, Some, [], length, map, slice_get, suc, zero, ℕ, ◌*◌, ◌+◌, ◌∷◌, ◌≡◌, ◌≤◌}
use Rattle.std.proofs.Common.{ap, arith, subst}
use Rattle.obq_base.specs.declared.trees.Block.{Block}
use Rattle.obq_base.specs.View.{block_tree}
use Rattle.obq_model.specs.Config.{Config, ThreadState}
use Rattle.obq_model.proofs.Widths.{reading_length}
use Rattle.obq_laws.specs.Closures.{closures_made}
use Rattle.obq_laws.specs.Counts.{UsedAtMost}
use Rattle.obq_laws.proofs.ClosuresMade.{closures_law}
use Rattle.obq_laws.proofs.Counts.{counts_law}
use Rattle.obq_sources.specs.Literals.{AreShort, ProgramsAreNarrow, SourcesAreNarrow, SourcesMakeFew}
use Rattle.obq_sources.proofs.Narrow.{few_block}

pub programs_are_narrow : ProgramsAreNarrow
programs_are_narrow n tokens tree derived short = (few_block n derived.1 (record { within = short })).0

pub sources_are_narrow : SourcesAreNarrow
sources_are_narrow n [] [] h short = tt
sources_are_narrow n (source ∷ sources) (tree ∷ trees) h short = (
  let accepted = h.0.1 in
      let few = reading_length source h.0.0 accepted.reading in
      let first = short.0 in
      programs_are_narrow n h.0.0 tree accepted.derived (omega (arith, few, first)),
  sources_are_narrow n sources trees h.1 short.1,
)
sources_are_narrow n [] (tree ∷ trees) h short = absurd h
sources_are_narrow n (source ∷ sources) [] h short = absurd h

used_at_most : (turns : ℕ) (ss : List ThreadState) (t : ℕ) (s : ThreadState) → UsedAtMost turns ss → slice_get ss t ≡ Some s → s.used ≤ turns
used_at_most turns [] t s h e = absurd (cc e)
used_at_most turns (x ∷ xs) zero s h e = let same : x ≡ s = cc e in subst (λ (y : ThreadState). y.used ≤ turns) same h.0
used_at_most turns (x ∷ xs) (suc t) s h e = used_at_most turns xs t s h.1 e

pub sources_make_few : SourcesMakeFew
sources_make_few n turns sources trees es k t state least h short r here =
    let few = closures_law (map block_tree trees) turns es k t state n least (sources_are_narrow n sources trees h short) r here in
    let used = used_at_most turns k.threads t state (counts_law (map block_tree trees) turns es k r).2 here in
    (few, limit (closures_made (map block_tree trees) turns es t) state.used few used)
  where
    limit : (made used : ℕ) → made ≤ used * n → used ≤ turns → made ≤ turns * n
    limit made used h i = grind (arith, h, i)
