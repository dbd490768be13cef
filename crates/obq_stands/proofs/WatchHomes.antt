-- Homes are kept by the events with watches too.
use Rattle.std.specs.Prelude.{ℕ, refl, ◌<◌, ◌≡◌, ◌⊎◌}
use Rattle.std.proofs.Common.{inl, inr, subst, sym}
use Rattle.obq_stands.specs.Events.{Step}
use Rattle.obq_stands.specs.Over.{AtHome, home_behind}
use Rattle.obq_stands.specs.Facts.{WatchHomesKept}
use Rattle.obq_stands.proofs.Homes.{homes_kept}
use Rattle.obq_stands.proofs.Joined.{watch_step_is}

pub watch_homes_kept : WatchHomesKept
watch_homes_kept trees turns w x e e2 home i at s = by (watch_step_is trees turns w x e e2 i s)
  where
    by : (Step turns w x ⊎ (x ≡ w)) → (home2 : ℕ → ℕ) × AtHome x home2 × ((u : ℕ) → u < w.threads → home2 u ≡ home u)
    by (inl k) = let h = homes_kept trees turns w x home i.stands at k in (home_behind k home, h.0, h.1)
    by (inr same) = (home, subst (λ v. AtHome v home) (sym same) at, λ u l. refl)
