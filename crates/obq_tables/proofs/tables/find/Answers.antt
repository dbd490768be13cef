use Rattle.std.proofs.Common.{sym, ◌∙◌}
use Rattle.std.specs.Str.{bytes_eq}
use Rattle.obq_tables.proofs.Positions.{position-map}
use Rattle.obq_tables.proofs.tables.find.Goals as goal

pub returns-clause-first : goal.returns-clause-first
returns-clause-first g c = c.find_row.ensures ∙ sym (position-map g.R.Row.key_of (λ k. bytes_eq k c.args.key.now) c.args.rows.now)
