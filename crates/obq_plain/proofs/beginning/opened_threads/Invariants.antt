use Rattle.std.proofs.Common.{drop, length, map, ◌++◌, ◌≡◌}
use Rattle.obq_base.specs.View.{block_tree}
use Rattle.obq_model.specs.Opening.{new_threads, opening_terms}
use Rattle.obq_plain.specs.Threads.{thread_of}
use Rattle.obq_plain.proofs.beginning.opened_threads.Given as goal

abbrev pub invariant-loop-site : goal.invariant-loop-site
invariant-loop-site l = record {
  same : map thread_of l.threads.items ++ new_threads (opening_terms l.site (map block_tree (drop l.site l.blocks))) ≡ new_threads (opening_terms 0 (map block_tree l.blocks));
  count : length l.threads.items ≡ l.site;
}
