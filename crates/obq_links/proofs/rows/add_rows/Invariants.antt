use Rattle.std.proofs.Common.{◌++◌, ◌-◌, ◌≡◌}
use Rattle.obq_model.specs.Located.{first_sites}
use Rattle.obq_links.specs.Rows.{rows_from, rows_of}
use Rattle.obq_links.proofs.rows.add_rows.Given as goal

abbrev pub invariant-loop-to : goal.invariant-loop-to
invariant-loop-to l =
    rows_of l.rows.items ++ rows_from l.requests l.replies l.from (first_sites l.to (l.sites - l.to))
    ≡ rows_of l.fn.rows.items ++ rows_from l.requests l.replies l.from (first_sites 0 l.sites)
