use Rattle.std.proofs.Common.{refl, rules}
use Rattle.obq_links.specs.Rows.{row_between, rows_from, rows_of}
use Rattle.obq_links.proofs.FirstSites.{onward}
use Rattle.obq_links.proofs.rows.add_rows.Goals as goal

pub loop-to-preserved : goal.loop-to-preserved
loop-to-preserved c =
    let requests = c.args.requests.now in
    let replies = c.args.replies.now in
    onward (rows_from requests replies c.args.from) (row_between requests replies c.args.from) (λ k ks. refl) c.loop-to.to c.args.sites c.loop-to-test.true (rows_of c.loop-to.rows.items)
    (rows_of c.add_row.new.rows.items) _ (search rules) c.loop-to.invariant
