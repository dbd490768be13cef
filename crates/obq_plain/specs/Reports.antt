-- Reports.
use Rattle.std.specs.Prelude.{ℕ, ◌+◌}
use Rattle.obq_base.specs.declared.acts.Report.{Report}

-- how many threads a report counts
abbrev pub threads_in : Report → ℕ
threads_in r = r.ended + r.raised + r.waiting + r.spent
