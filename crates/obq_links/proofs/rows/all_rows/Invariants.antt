use Rattle.std.proofs.Common.{◌++◌, ◌-◌, ◌≡◌}
use Rattle.obq_model.specs.Located.{first_sites}
use Rattle.obq_links.specs.Rows.{rows_among, rows_of}
use Rattle.obq_links.proofs.rows.all_rows.Given as goal

abbrev pub invariant-loop-from : goal.invariant-loop-from
invariant-loop-from l =
    rows_of l.rows.items ++ rows_among l.requests l.replies (first_sites l.from (l.sites - l.from)) (first_sites 0 l.sites)
    ≡ rows_among l.requests l.replies (first_sites 0 l.sites) (first_sites 0 l.sites)
