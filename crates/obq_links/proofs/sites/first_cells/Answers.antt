use Rattle.std.proofs.Common.{[], refl, rules, ◌∷◌}
use Rattle.obq_links.proofs.FirstSites.{onward}
use Rattle.obq_links.proofs.sites.first_cells.Goals as goal

pub loop-site-preserved : goal.loop-site-preserved
loop-site-preserved c =
    onward (λ ks. ks) (λ k. k ∷ []) (λ k ks. refl) c.loop-site.site c.args.sites c.loop-site-test.true c.loop-site.cells.items c.push.new.self.items _ (search rules) c.loop-site.invariant
