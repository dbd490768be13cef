-- Held spans and migration spans of a program that migrates an object: thread 0 holds cell 3 at its `inc` and at its `move`, which copies and
-- redirects it.
use Rattle.std.specs.Prelude.{refl, ◌≡◌}
use Rattle.std.specs.Fmt.{digits}
use Rattle.obq_model.specs.Spans.{begins_hold, ends_hold, copies_self, redirects_self, is_outside}
use Rattle.obq_rows.specs.Schedule.{LowestFirst, acts_in_run}
use Rattle.obq_rows.proofs.Sites.{migration}

begins_twice : acts_in_run (begins_hold 0 3) LowestFirst 300 100000 migration ≡ 2
unfolding digits
begins_twice = refl

ends_twice : acts_in_run (ends_hold 0 3) LowestFirst 300 100000 migration ≡ 2
unfolding digits
ends_twice = refl

copies_once : acts_in_run (copies_self 0 3) LowestFirst 300 100000 migration ≡ 1
unfolding digits
copies_once = refl

redirects_once : acts_in_run (redirects_self 0 3) LowestFirst 300 100000 migration ≡ 1
unfolding digits
redirects_once = refl

-- from outside come the two calls with which the spans begin, and two hops after them, since the fields are aliases then
outside_four_times : acts_in_run (is_outside 0 3) LowestFirst 300 100000 migration ≡ 4
unfolding digits
outside_four_times = refl
