use Rattle.std.proofs.Common.{refl, rules}
use Rattle.obq_model.specs.Located.{first_sites}
use Rattle.obq_links.specs.Rows.{rows_among, rows_from, rows_of}
use Rattle.obq_links.proofs.FirstSites.{onward}
use Rattle.obq_links.proofs.rows.all_rows.Goals as goal

pub loop-from-preserved : goal.loop-from-preserved
loop-from-preserved c =
    let requests = c.args.requests.now in
    let replies = c.args.replies.now in
    let sites = first_sites 0 c.args.sites in
    onward (λ froms. rows_among requests replies froms sites) (λ from. rows_from requests replies from sites) (λ k ks. refl) c.loop-from.from c.args.sites c.loop-from-test.true
    (rows_of c.loop-from.rows.items) (rows_of c.add_rows.new.rows.items) _ (search rules) c.loop-from.invariant
