use Rattle.std.proofs.Common.{[], map, ◌++◌, ◌-◌, ◌∷◌, ◌≡◌}
use Rattle.obq_model.specs.Located.{first_sites}
use Rattle.obq_links.proofs.sites.first_threads.Given as goal

abbrev pub invariant-loop-site : goal.invariant-loop-site
invariant-loop-site l = l.threads.items ++ map (λ s. s ∷ []) (first_sites l.site (l.sites - l.site)) ≡ map (λ s. s ∷ []) (first_sites 0 l.sites)
