-- Requests and replies between sites; the name server is the site after the last.
use Rattle.std.specs.Prelude.{Some, [], refl, ◌∷◌, ◌≡◌}
use Rattle.std.specs.Fmt.{digits}
use Rattle.obq_model.specs.Located.{Sent}
use Rattle.obq_rows.specs.Schedule.{LowestFirst, HighestFirst, links_of_run}
use Rattle.obq_rows.proofs.Sites.{engine_call, import_waits, update_abroad, migration}

migration_links : links_of_run LowestFirst 300 100000 migration ≡ Some (Sent 0 1 3 1 ∷ Sent 0 2 1 0 ∷ Sent 1 0 1 3 ∷ Sent 1 2 1 0 ∷ Sent 2 0 0 1 ∷ Sent 2 1 0 1 ∷ [])
unfolding digits
migration_links = refl

migration_links_other_schedule : links_of_run HighestFirst 300 100000 migration ≡ Some (Sent 0 1 3 1 ∷ Sent 0 2 1 0 ∷ Sent 1 0 1 3 ∷ Sent 1 2 1 0 ∷ Sent 2 0 0 1 ∷ Sent 2 1 0 1 ∷ [])
unfolding digits
migration_links_other_schedule = refl

engine_call_links : links_of_run LowestFirst 300 100000 engine_call ≡ Some (Sent 0 1 1 1 ∷ Sent 0 2 1 0 ∷ Sent 1 0 1 1 ∷ Sent 1 2 1 0 ∷ Sent 2 0 0 1 ∷ Sent 2 1 0 1 ∷ [])
unfolding digits
engine_call_links = refl

engine_call_links_other_schedule : links_of_run HighestFirst 300 100000 engine_call ≡ Some (Sent 0 1 1 1 ∷ Sent 0 2 1 0 ∷ Sent 1 0 1 1 ∷ Sent 1 2 1 0 ∷ Sent 2 0 0 1 ∷ Sent 2 1 0 1 ∷ [])
unfolding digits
engine_call_links_other_schedule = refl

import_waits_links : links_of_run LowestFirst 300 100000 import_waits ≡ Some (Sent 0 1 1 0 ∷ [])
unfolding digits
import_waits_links = refl

update_abroad_links : links_of_run LowestFirst 300 100000 update_abroad ≡ Some (Sent 0 1 3 0 ∷ Sent 0 2 1 0 ∷ Sent 1 0 0 3 ∷ Sent 1 2 1 0 ∷ Sent 2 0 0 1 ∷ Sent 2 1 0 1 ∷ [])
unfolding digits
update_abroad_links = refl

update_abroad_links_other_schedule : links_of_run HighestFirst 300 100000 update_abroad ≡ Some (Sent 0 1 3 0 ∷ Sent 0 2 1 0 ∷ Sent 1 0 0 3 ∷ Sent 1 2 1 0 ∷ Sent 2 0 0 1 ∷ Sent 2 1 0 1 ∷ [])
unfolding digits
update_abroad_links_other_schedule = refl
