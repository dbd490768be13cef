use Rattle.std.proofs.Common.{◌++◌, ◌-◌, ◌≡◌}
use Rattle.obq_model.specs.Located.{first_sites}
use Rattle.obq_links.proofs.sites.first_cells.Given as goal

abbrev pub invariant-loop-site : goal.invariant-loop-site
invariant-loop-site l = l.cells.items ++ first_sites l.site (l.sites - l.site) ≡ first_sites 0 l.sites
