-- A migration while another thread uses the object, on three schedules.
use Rattle.std.specs.Prelude.{List, [], codes, false, refl, true, ◌∷◌, ◌≡◌}
use Rattle.std.specs.Fmt.{digits}
use Rattle.obq_base.specs.declared.trees.Operator.{Operator}
use Rattle.obq_base.specs.Tree.{BlockTree}
use Rattle.obq_rows.specs.Sources.{block, then_run, bind_let, set_value, int, text, named, procedure, flags, object, value_field, method_field, counted, redirect_to, clone_of, operated, call_named, select, call_method, print}
use Rattle.obq_rows.specs.Schedule.{LowestFirst, HighestFirst, RoundRobin, Printed, run}

-- A: let e = net_importEngine("e", "namer"); let c = {serialized, n => 0, inc => meth(s) s.n := s.n + 1 end, move => meth(s, e)
--    let d = e(proc(arg) clone(s) end); redirect s to d end end}; let t = fork(proc() for i = 1 to 5 do c.inc() end end);
--    c.move(e); for i = 1 to 5 do c.inc() end; join(t); wr_putText(stdout, fmt_int(c.n));
-- E: net_exportEngine("e", "namer", 0);
abbrev pub migration_under_load : List BlockTree
migration_under_load =
    block (
    bind_let "e" (call_named "net_importEngine" (text "e" ∷ text "namer" ∷ []))
    ∷ bind_let "c" (object (flags false true) (value_field "n" (int 0) ∷ method_field "inc" (codes "s" ∷ []) (set_value (named "s") "n" (operated (select (named "s") "n") Operator.Add (int 1)) ∷ []) ∷ method_field "move" (codes "s" ∷ codes "e" ∷ []) (bind_let "d" (call_named "e" (procedure (codes "arg" ∷ []) (then_run (clone_of (named "s" ∷ [])) ∷ []) ∷ [])) ∷ then_run (redirect_to (named "s") (named "d")) ∷ []) ∷ []))
    ∷ bind_let "t" (call_named "fork" (procedure [] (then_run (counted "i" (int 1) (int 5) (then_run (call_method (named "c") "inc" []) ∷ [])) ∷ []) ∷ []))
    ∷ then_run (call_method (named "c") "move" (named "e" ∷ []))
    ∷ then_run (counted "i" (int 1) (int 5) (then_run (call_method (named "c") "inc" []) ∷ []))
    ∷ then_run (call_named "join" (named "t" ∷ []))
    ∷ then_run (print (call_named "fmt_int" (select (named "c") "n" ∷ [])))
    ∷ []
    )
    ∷ block (
    then_run (call_named "net_exportEngine" (text "e" ∷ text "namer" ∷ int 0 ∷ []))
    ∷ []
    )
    ∷ []

migration_under_load_prints : run LowestFirst 2000 100000 migration_under_load ≡ Printed (codes "10" ∷ [] ∷ []) 3 0 0 0 0
unfolding digits
migration_under_load_prints = refl

migration_under_load_prints_other_schedule : run HighestFirst 2000 100000 migration_under_load ≡ Printed (codes "10" ∷ [] ∷ []) 3 0 0 0 0
unfolding digits
migration_under_load_prints_other_schedule = refl

migration_under_load_prints_schedule_3 : run RoundRobin 2000 100000 migration_under_load ≡ Printed (codes "10" ∷ [] ∷ []) 3 0 0 0 0
unfolding digits
migration_under_load_prints_schedule_3 = refl
