-- Programs over sites, run by a World that is computed, on two schedules each: its journal replays to the same output, and the requests and replies that were posted are
-- those that the located replay of its journal counts.
use Rattle.std.specs.Prelude.{None, [], codes, refl, true, ◌∷◌, ◌≡◌}
use Rattle.std.specs.Fmt.{digits}
use Rattle.obq_base.specs.declared.acts.ActKind.{ActKind}
use Rattle.obq_model.specs.Located.{Sent}
use Rattle.obq_rows.specs.Schedule.{Printed}
use Rattle.obq_rows.specs.SmallWorld.{eager, patient, small, run_small, both, counts_agree, acts_of}
use Rattle.obq_rows.proofs.Abroad.{alias_abroad, join_abroad}
use Rattle.obq_rows.proofs.Migration.{migration_under_load}
use Rattle.obq_rows.proofs.Sites.{engine_call, object_sent_abroad, import_waits, export_again, update_abroad, watch_abroad, migration}

update_abroad_runs : run_small 20 eager 100000 2 update_abroad ≡ both (Printed (codes "8" ∷ [] ∷ []) 2 0 0 0 0) (codes "8" ∷ [] ∷ []) (Sent 0 1 3 0 ∷ Sent 0 2 1 0 ∷ Sent 1 0 0 3 ∷ Sent 1 2 1 0 ∷ Sent 2 0 0 1 ∷ Sent 2 1 0 1 ∷ [])
unfolding digits
update_abroad_runs = refl

update_abroad_runs_other_schedule : run_small 120 patient 100000 2 update_abroad ≡ both (Printed (codes "8" ∷ [] ∷ []) 2 0 0 0 0) (codes "8" ∷ [] ∷ []) (Sent 0 1 3 0 ∷ Sent 0 2 1 0 ∷ Sent 1 0 0 3 ∷ Sent 1 2 1 0 ∷ Sent 2 0 0 1 ∷ Sent 2 1 0 1 ∷ [])
unfolding digits
update_abroad_runs_other_schedule = refl

migration_runs : run_small 30 eager 100000 2 migration ≡ both (Printed (codes "2" ∷ [] ∷ []) 2 0 0 0 0) (codes "2" ∷ [] ∷ []) (Sent 0 1 3 1 ∷ Sent 0 2 1 0 ∷ Sent 1 0 1 3 ∷ Sent 1 2 1 0 ∷ Sent 2 0 0 1 ∷ Sent 2 1 0 1 ∷ [])
unfolding digits
migration_runs = refl

migration_runs_other_schedule : run_small 180 patient 100000 2 migration ≡ both (Printed (codes "2" ∷ [] ∷ []) 2 0 0 0 0) (codes "2" ∷ [] ∷ []) (Sent 0 1 3 1 ∷ Sent 0 2 1 0 ∷ Sent 1 0 1 3 ∷ Sent 1 2 1 0 ∷ Sent 2 0 0 1 ∷ Sent 2 1 0 1 ∷ [])
unfolding digits
migration_runs_other_schedule = refl

engine_call_runs : run_small 20 eager 100000 2 engine_call ≡ both (Printed (codes "a" ∷ codes "e" ∷ []) 2 0 0 0 0) (codes "a" ∷ codes "e" ∷ []) (Sent 0 1 1 1 ∷ Sent 0 2 1 0 ∷ Sent 1 0 1 1 ∷ Sent 1 2 1 0 ∷ Sent 2 0 0 1 ∷ Sent 2 1 0 1 ∷ [])
unfolding digits
engine_call_runs = refl

engine_call_runs_other_schedule : run_small 120 patient 100000 2 engine_call ≡ both (Printed (codes "a" ∷ codes "e" ∷ []) 2 0 0 0 0) (codes "a" ∷ codes "e" ∷ []) (Sent 0 1 1 1 ∷ Sent 0 2 1 0 ∷ Sent 1 0 1 1 ∷ Sent 1 2 1 0 ∷ Sent 2 0 0 1 ∷ Sent 2 1 0 1 ∷ [])
unfolding digits
engine_call_runs_other_schedule = refl

object_sent_abroad_runs : run_small 20 eager 100000 2 object_sent_abroad ≡ both (Printed (codes "7" ∷ [] ∷ []) 2 0 0 0 0) (codes "7" ∷ [] ∷ []) (Sent 0 1 1 0 ∷ Sent 0 2 1 0 ∷ Sent 1 0 0 1 ∷ Sent 1 2 1 0 ∷ Sent 2 0 0 1 ∷ Sent 2 1 0 1 ∷ [])
unfolding digits
object_sent_abroad_runs = refl

object_sent_abroad_runs_other_schedule : run_small 120 patient 100000 2 object_sent_abroad ≡ both (Printed (codes "7" ∷ [] ∷ []) 2 0 0 0 0) (codes "7" ∷ [] ∷ []) (Sent 0 1 1 0 ∷ Sent 0 2 1 0 ∷ Sent 1 0 0 1 ∷ Sent 1 2 1 0 ∷ Sent 2 0 0 1 ∷ Sent 2 1 0 1 ∷ [])
unfolding digits
object_sent_abroad_runs_other_schedule = refl

import_waits_runs : run_small 5 eager 100000 1 import_waits ≡ both (Printed ([] ∷ []) 0 0 1 0 11) ([] ∷ []) (Sent 0 1 1 0 ∷ [])
unfolding digits
import_waits_runs = refl

import_waits_runs_other_schedule : run_small 30 patient 100000 1 import_waits ≡ both (Printed ([] ∷ []) 0 0 1 0 11) ([] ∷ []) (Sent 0 1 1 0 ∷ [])
unfolding digits
import_waits_runs_other_schedule = refl

export_again_runs : run_small 20 eager 100000 1 export_again ≡ both (Printed (codes "2" ∷ []) 1 0 0 0 0) (codes "2" ∷ []) (Sent 0 1 3 0 ∷ Sent 1 0 0 3 ∷ [])
unfolding digits
export_again_runs = refl

export_again_runs_other_schedule : run_small 120 patient 100000 1 export_again ≡ both (Printed (codes "2" ∷ []) 1 0 0 0 0) (codes "2" ∷ []) (Sent 0 1 3 0 ∷ Sent 1 0 0 3 ∷ [])
unfolding digits
export_again_runs_other_schedule = refl

alias_abroad_runs : run_small 20 eager 100000 2 alias_abroad ≡ both (Printed (codes "5" ∷ [] ∷ []) 2 0 0 0 0) (codes "5" ∷ [] ∷ []) (Sent 0 1 2 0 ∷ Sent 0 2 1 0 ∷ Sent 1 0 0 2 ∷ Sent 1 2 1 0 ∷ Sent 2 0 0 1 ∷ Sent 2 1 0 1 ∷ [])
unfolding digits
alias_abroad_runs = refl

alias_abroad_runs_other_schedule : run_small 120 patient 100000 2 alias_abroad ≡ both (Printed (codes "5" ∷ [] ∷ []) 2 0 0 0 0) (codes "5" ∷ [] ∷ []) (Sent 0 1 2 0 ∷ Sent 0 2 1 0 ∷ Sent 1 0 0 2 ∷ Sent 1 2 1 0 ∷ Sent 2 0 0 1 ∷ Sent 2 1 0 1 ∷ [])
unfolding digits
alias_abroad_runs_other_schedule = refl

join_abroad_runs : run_small 20 eager 100000 3 join_abroad ≡ both (Printed (codes "j" ∷ [] ∷ []) 3 0 0 0 0) (codes "j" ∷ [] ∷ []) (Sent 0 1 1 0 ∷ Sent 0 2 1 0 ∷ Sent 1 0 0 1 ∷ Sent 1 2 1 0 ∷ Sent 2 0 0 1 ∷ Sent 2 1 0 1 ∷ [])
unfolding digits
join_abroad_runs = refl

join_abroad_runs_other_schedule : run_small 120 patient 100000 3 join_abroad ≡ both (Printed (codes "j" ∷ [] ∷ []) 3 0 0 0 0) (codes "j" ∷ [] ∷ []) (Sent 0 1 1 0 ∷ Sent 0 2 1 0 ∷ Sent 1 0 0 1 ∷ Sent 1 2 1 0 ∷ Sent 2 0 0 1 ∷ Sent 2 1 0 1 ∷ [])
unfolding digits
join_abroad_runs_other_schedule = refl

-- turns abroad are turns: behind the import, the `let` and the selection there is one more
spent_abroad_runs : run_small 20 eager 4 2 update_abroad ≡ both (Printed ([] ∷ [] ∷ []) 1 0 0 1 12) ([] ∷ [] ∷ []) (Sent 0 1 1 0 ∷ Sent 0 2 1 0 ∷ Sent 1 0 0 1 ∷ Sent 1 2 1 0 ∷ Sent 2 0 0 1 ∷ Sent 2 1 0 1 ∷ [])
unfolding digits
spent_abroad_runs = refl

spent_abroad_runs_other_schedule : run_small 20 patient 4 2 update_abroad ≡ both (Printed ([] ∷ [] ∷ []) 1 0 0 1 12) ([] ∷ [] ∷ []) (Sent 0 1 1 0 ∷ Sent 0 2 1 0 ∷ Sent 1 0 0 1 ∷ Sent 1 2 1 0 ∷ Sent 2 0 0 1 ∷ Sent 2 1 0 1 ∷ [])
unfolding digits
spent_abroad_runs_other_schedule = refl

-- how many there are depends on the schedule here
under_load_agrees : counts_agree (run_small 60 eager 100000 3 migration_under_load) ≡ true
unfolding digits
under_load_agrees = refl

under_load_prints : (run_small 60 eager 100000 3 migration_under_load).replayed ≡ Printed (codes "10" ∷ [] ∷ []) 3 0 0 0 0
unfolding digits
under_load_prints = refl

under_load_agrees_other_schedule : counts_agree (run_small 250 patient 100000 3 migration_under_load) ≡ true
unfolding digits
under_load_agrees_other_schedule = refl

under_load_prints_other_schedule : (run_small 250 patient 100000 3 migration_under_load).replayed ≡ Printed (codes "10" ∷ [] ∷ []) 3 0 0 0 0
unfolding digits
under_load_prints_other_schedule = refl

-- a watch with its condition at another site than its object: the mutex is taken again by the one wake
watch_abroad_agrees : counts_agree (run_small 40 eager 100000 3 watch_abroad) ≡ true
unfolding digits
watch_abroad_agrees = refl

watch_abroad_runs : (run_small 40 eager 100000 3 watch_abroad).replayed ≡ Printed (codes "ok" ∷ [] ∷ []) 3 0 0 0 0
unfolding digits
watch_abroad_runs = refl

watch_abroad_wakes : acts_of ActKind.Again (small 40 eager 100000 3 watch_abroad).world.journal ≡ 1
watch_abroad_wakes = refl

watch_abroad_agrees_other_schedule : counts_agree (run_small 200 patient 100000 3 watch_abroad) ≡ true
unfolding digits
watch_abroad_agrees_other_schedule = refl

watch_abroad_runs_other_schedule : (run_small 200 patient 100000 3 watch_abroad).replayed ≡ Printed (codes "ok" ∷ [] ∷ []) 3 0 0 0 0
unfolding digits
watch_abroad_runs_other_schedule = refl

watch_abroad_wakes_other_schedule : acts_of ActKind.Again (small 200 patient 100000 3 watch_abroad).world.journal ≡ 1
watch_abroad_wakes_other_schedule = refl

-- and it is used up
no_wake_is_left : ((small 40 eager 100000 3 watch_abroad).watch.noted 0 2 ≡ None) × ((small 200 patient 100000 3 watch_abroad).watch.noted 0 2 ≡ None)
no_wake_is_left = (refl, refl)
