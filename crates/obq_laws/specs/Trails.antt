-- The sites of a thread's activations, in the located fold.
use Rattle.std.specs.Prelude.{List, Some, [], length, suc, ℕ, ◌∷◌, ◌≡◌}
use Rattle.obq_base.specs.declared.acts.Entry.{Entry}
use Rattle.obq_base.specs.Tree.{BlockTree}
use Rattle.obq_model.specs.Terms.{Term}
use Rattle.obq_model.specs.Step.{no_self}
use Rattle.obq_model.specs.Forms.{IsFormed}
use Rattle.obq_model.specs.Located.{Located, activations_of, Trail, after_steps, execution_activations, located_replay}
use Rattle.obq_model.specs.Config.{ThreadState}
use Rattle.obq_model.specs.Replay.{after_pure}

-- a trail with one site more than there are activations has so behind pure steps
abbrev pub StepsTrail : Type 0
StepsTrail =
    (n : ℕ) (t v : Term ℕ) (tr : Trail) → IsFormed no_self t → length tr.0 ≡ suc (activations_of t) → after_pure n t ≡ Some v → length (after_steps n t tr).0 ≡ suc (activations_of v)

-- each thread has a trail of one site more than it has activations
abbrev pub TrailsFit : List (List ℕ) → List ThreadState → Type 0
TrailsFit [] [] = Unit {0}
TrailsFit (tr ∷ trs) (s ∷ ss) = (length tr ≡ suc (execution_activations s.execution)) × TrailsFit trs ss
TrailsFit trs ss = ⊥

-- and there are as many sites as cells
abbrev pub SitesHold : Located → Type 0
SitesHold l = (length l.cell_sites ≡ length l.config.store.cells) × TrailsFit l.thread_sites l.config.threads

-- so in every located replay
abbrev pub SitesLaw : Type 0
SitesLaw = (trees : List BlockTree) (turns : ℕ) (es : List Entry) (l : Located) → located_replay trees turns es ≡ Some l → SitesHold l
