-- Programs over two sites, on two schedules each where threads meet.
use Rattle.std.specs.Prelude.{List, [], codes, false, refl, true, ◌∷◌, ◌≡◌}
use Rattle.std.specs.Fmt.{digits}
use Rattle.obq_base.specs.declared.trees.Operator.{Operator}
use Rattle.obq_base.specs.Tree.{BlockTree}
use Rattle.obq_rows.specs.Sources.{block, then_run, bind_let, set_value, int, text, named, procedure, flags, object, value_field, method_field, arm, choose_arm, watch_until, redirect_to, clone_of, operated, call_named, select, call_method, print}
use Rattle.obq_rows.specs.Schedule.{LowestFirst, HighestFirst, Printed, run}

-- A: let e = net_importEngine("e", "namer"); e(proc(w) wr_putText(stdout, "a"); wr_putText(w, "e") end);
-- E: net_exportEngine("e", "namer", stdout);
abbrev pub engine_call : List BlockTree
engine_call =
    block (
    bind_let "e" (call_named "net_importEngine" (text "e" ∷ text "namer" ∷ []))
    ∷ then_run (call_named "e" (procedure (codes "w" ∷ []) (then_run (print (text "a")) ∷ then_run (call_named "wr_putText" (named "w" ∷ text "e" ∷ [])) ∷ []) ∷ []))
    ∷ []
    )
    ∷ block (
    then_run (call_named "net_exportEngine" (text "e" ∷ text "namer" ∷ named "stdout" ∷ []))
    ∷ []
    )
    ∷ []

engine_call_prints : run LowestFirst 300 100000 engine_call ≡ Printed (codes "a" ∷ codes "e" ∷ []) 2 0 0 0 0
unfolding digits
engine_call_prints = refl

engine_call_prints_other_schedule : run HighestFirst 300 100000 engine_call ≡ Printed (codes "a" ∷ codes "e" ∷ []) 2 0 0 0 0
unfolding digits
engine_call_prints_other_schedule = refl

-- A: let h = net_import("id", "namer"); let o = {serialized, n => 7, get => meth(s) s.n end, test => meth(s) let t = h.id(s); if t
--    is s then wr_putText(stdout, fmt_int(t.get())) end end}; o.test();
-- E: net_export("id", "namer", {id => meth(s, x) x end});
abbrev pub object_sent_abroad : List BlockTree
object_sent_abroad =
    block (
    bind_let "h" (call_named "net_import" (text "id" ∷ text "namer" ∷ []))
    ∷ bind_let "o" (object (flags false true) (value_field "n" (int 7) ∷ method_field "get" (codes "s" ∷ []) (then_run (select (named "s") "n") ∷ []) ∷ method_field "test" (codes "s" ∷ []) (bind_let "t" (call_method (named "h") "id" (named "s" ∷ [])) ∷ then_run (choose_arm (arm (operated (named "t") Operator.Is (named "s")) (then_run (print (call_named "fmt_int" (call_method (named "t") "get" [] ∷ []))) ∷ []) ∷ [])) ∷ []) ∷ []))
    ∷ then_run (call_method (named "o") "test" [])
    ∷ []
    )
    ∷ block (
    then_run (call_named "net_export" (text "id" ∷ text "namer" ∷ object (flags false false) (method_field "id" (codes "s" ∷ codes "x" ∷ []) (then_run (named "x") ∷ []) ∷ []) ∷ []))
    ∷ []
    )
    ∷ []

object_sent_abroad_prints : run LowestFirst 300 100000 object_sent_abroad ≡ Printed (codes "7" ∷ [] ∷ []) 2 0 0 0 0
unfolding digits
object_sent_abroad_prints = refl

object_sent_abroad_prints_other_schedule : run HighestFirst 300 100000 object_sent_abroad ≡ Printed (codes "7" ∷ [] ∷ []) 2 0 0 0 0
unfolding digits
object_sent_abroad_prints_other_schedule = refl

-- net_import("none", "namer");
abbrev pub import_waits : List BlockTree
import_waits =
    block (
    then_run (call_named "net_import" (text "none" ∷ text "namer" ∷ []))
    ∷ []
    )
    ∷ []

import_waits_prints : run LowestFirst 300 100000 import_waits ≡ Printed ([] ∷ []) 0 0 1 0 11
unfolding digits
import_waits_prints = refl

-- net_export("k", "namer", 1); net_export("k", "namer", 2); wr_putText(stdout, fmt_int(net_import("k", "namer")));
abbrev pub export_again : List BlockTree
export_again =
    block (
    then_run (call_named "net_export" (text "k" ∷ text "namer" ∷ int 1 ∷ []))
    ∷ then_run (call_named "net_export" (text "k" ∷ text "namer" ∷ int 2 ∷ []))
    ∷ then_run (print (call_named "fmt_int" (call_named "net_import" (text "k" ∷ text "namer" ∷ []) ∷ [])))
    ∷ []
    )
    ∷ []

export_again_prints : run LowestFirst 300 100000 export_again ≡ Printed (codes "2" ∷ []) 1 0 0 0 0
unfolding digits
export_again_prints = refl

-- A: let p = net_import("p", "n"); p.x := p.x + 1; wr_putText(stdout, fmt_int(p.x));
-- E: net_export("p", "n", {x => 7});
abbrev pub update_abroad : List BlockTree
update_abroad =
    block (
    bind_let "p" (call_named "net_import" (text "p" ∷ text "n" ∷ []))
    ∷ set_value (named "p") "x" (operated (select (named "p") "x") Operator.Add (int 1))
    ∷ then_run (print (call_named "fmt_int" (select (named "p") "x" ∷ [])))
    ∷ []
    )
    ∷ block (
    then_run (call_named "net_export" (text "p" ∷ text "n" ∷ object (flags false false) (value_field "x" (int 7) ∷ []) ∷ []))
    ∷ []
    )
    ∷ []

update_abroad_prints : run LowestFirst 300 100000 update_abroad ≡ Printed (codes "8" ∷ [] ∷ []) 2 0 0 0 0
unfolding digits
update_abroad_prints = refl

update_abroad_prints_other_schedule : run HighestFirst 300 100000 update_abroad ≡ Printed (codes "8" ∷ [] ∷ []) 2 0 0 0 0
unfolding digits
update_abroad_prints_other_schedule = refl

-- let o = {x => 1}; net_export("o", "n", o); let q = net_import("o", "n"); q.x := 4; if q is o then wr_putText(stdout,
--    fmt_int(o.x)) end;
abbrev pub own_export : List BlockTree
own_export =
    block (
    bind_let "o" (object (flags false false) (value_field "x" (int 1) ∷ []))
    ∷ then_run (call_named "net_export" (text "o" ∷ text "n" ∷ named "o" ∷ []))
    ∷ bind_let "q" (call_named "net_import" (text "o" ∷ text "n" ∷ []))
    ∷ set_value (named "q") "x" (int 4)
    ∷ then_run (choose_arm (arm (operated (named "q") Operator.Is (named "o")) (then_run (print (call_named "fmt_int" (select (named "o") "x" ∷ []))) ∷ []) ∷ []))
    ∷ []
    )
    ∷ []

own_export_prints : run LowestFirst 300 100000 own_export ≡ Printed (codes "4" ∷ []) 1 0 0 0 0
unfolding digits
own_export_prints = refl

-- A: let c = net_import("c", "n"); let b = {serialized, go => 0, hold => meth(s) watch c until s.go is 1 end end, set => meth(s)
--    s.go := 1; signal(c) end}; let t = fork(proc() b.hold() end); b.set(); join(t); wr_putText(stdout, "ok");
-- E: net_export("c", "n", condition());
abbrev pub watch_abroad : List BlockTree
watch_abroad =
    block (
    bind_let "c" (call_named "net_import" (text "c" ∷ text "n" ∷ []))
    ∷ bind_let "b" (object (flags false true) (value_field "go" (int 0) ∷ method_field "hold" (codes "s" ∷ []) (then_run (watch_until (named "c") (operated (select (named "s") "go") Operator.Is (int 1))) ∷ []) ∷ method_field "set" (codes "s" ∷ []) (set_value (named "s") "go" (int 1) ∷ then_run (call_named "signal" (named "c" ∷ [])) ∷ []) ∷ []))
    ∷ bind_let "t" (call_named "fork" (procedure [] (then_run (call_method (named "b") "hold" []) ∷ []) ∷ []))
    ∷ then_run (call_method (named "b") "set" [])
    ∷ then_run (call_named "join" (named "t" ∷ []))
    ∷ then_run (print (text "ok"))
    ∷ []
    )
    ∷ block (
    then_run (call_named "net_export" (text "c" ∷ text "n" ∷ call_named "condition" [] ∷ []))
    ∷ []
    )
    ∷ []

watch_abroad_prints : run LowestFirst 300 100000 watch_abroad ≡ Printed (codes "ok" ∷ [] ∷ []) 3 0 0 0 0
unfolding digits
watch_abroad_prints = refl

watch_abroad_prints_other_schedule : run HighestFirst 300 100000 watch_abroad ≡ Printed (codes "ok" ∷ [] ∷ []) 3 0 0 0 0
unfolding digits
watch_abroad_prints_other_schedule = refl

-- A: let e = net_importEngine("e", "namer"); let c = {serialized, n => 0, inc => meth(s) s.n := s.n + 1 end, move => meth(s, e)
--    let d = e(proc(arg) clone(s) end); redirect s to d end end}; c.inc(); c.move(e); c.inc(); wr_putText(stdout, fmt_int(c.n));
-- E: net_exportEngine("e", "namer", 0);
abbrev pub migration : List BlockTree
migration =
    block (
    bind_let "e" (call_named "net_importEngine" (text "e" ∷ text "namer" ∷ []))
    ∷ bind_let "c" (object (flags false true) (value_field "n" (int 0) ∷ method_field "inc" (codes "s" ∷ []) (set_value (named "s") "n" (operated (select (named "s") "n") Operator.Add (int 1)) ∷ []) ∷ method_field "move" (codes "s" ∷ codes "e" ∷ []) (bind_let "d" (call_named "e" (procedure (codes "arg" ∷ []) (then_run (clone_of (named "s" ∷ [])) ∷ []) ∷ [])) ∷ then_run (redirect_to (named "s") (named "d")) ∷ []) ∷ []))
    ∷ then_run (call_method (named "c") "inc" [])
    ∷ then_run (call_method (named "c") "move" (named "e" ∷ []))
    ∷ then_run (call_method (named "c") "inc" [])
    ∷ then_run (print (call_named "fmt_int" (select (named "c") "n" ∷ [])))
    ∷ []
    )
    ∷ block (
    then_run (call_named "net_exportEngine" (text "e" ∷ text "namer" ∷ int 0 ∷ []))
    ∷ []
    )
    ∷ []

migration_prints : run LowestFirst 300 100000 migration ≡ Printed (codes "2" ∷ [] ∷ []) 2 0 0 0 0
unfolding digits
migration_prints = refl

migration_prints_other_schedule : run HighestFirst 300 100000 migration ≡ Printed (codes "2" ∷ [] ∷ []) 2 0 0 0 0
unfolding digits
migration_prints_other_schedule = refl
