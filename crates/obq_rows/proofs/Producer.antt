-- A producer and a consumer at a condition, on three schedules.
use Rattle.std.specs.Prelude.{List, [], codes, false, refl, true, ◌∷◌, ◌≡◌}
use Rattle.std.specs.Fmt.{digits}
use Rattle.obq_base.specs.declared.trees.Operator.{Operator}
use Rattle.obq_base.specs.Tree.{BlockTree}
use Rattle.obq_rows.specs.Sources.{block, then_run, bind_let, set_value, int, named, procedure, flags, object, value_field, method_field, counted, watch_until, operated, call_named, select, call_method, print}
use Rattle.obq_rows.specs.Schedule.{LowestFirst, HighestFirst, RoundRobin, Printed, run}

-- let c = condition(); let b = {serialized, n => 0, put => meth(s) s.n := s.n + 1; signal(c) end, take => meth(s) watch c until
--    s.n > 0 end; s.n := s.n - 1 end}; let t = fork(proc() for i = 1 to 10 do b.take() end end); for i = 1 to 10 do b.put() end;
--    join(t); wr_putText(stdout, fmt_int(b.n));
abbrev pub producer_and_consumer : List BlockTree
producer_and_consumer =
    block (
    bind_let "c" (call_named "condition" [])
    ∷ bind_let "b" (object (flags false true) (value_field "n" (int 0) ∷ method_field "put" (codes "s" ∷ []) (set_value (named "s") "n" (operated (select (named "s") "n") Operator.Add (int 1)) ∷ then_run (call_named "signal" (named "c" ∷ [])) ∷ []) ∷ method_field "take" (codes "s" ∷ []) (then_run (watch_until (named "c") (operated (select (named "s") "n") Operator.Greater (int 0))) ∷ set_value (named "s") "n" (operated (select (named "s") "n") Operator.Subtract (int 1)) ∷ []) ∷ []))
    ∷ bind_let "t" (call_named "fork" (procedure [] (then_run (counted "i" (int 1) (int 10) (then_run (call_method (named "b") "take" []) ∷ [])) ∷ []) ∷ []))
    ∷ then_run (counted "i" (int 1) (int 10) (then_run (call_method (named "b") "put" []) ∷ []))
    ∷ then_run (call_named "join" (named "t" ∷ []))
    ∷ then_run (print (call_named "fmt_int" (select (named "b") "n" ∷ [])))
    ∷ []
    )
    ∷ []

producer_and_consumer_prints : run LowestFirst 2000 100000 producer_and_consumer ≡ Printed (codes "0" ∷ []) 2 0 0 0 0
unfolding digits
producer_and_consumer_prints = refl

producer_and_consumer_prints_other_schedule : run HighestFirst 2000 100000 producer_and_consumer ≡ Printed (codes "0" ∷ []) 2 0 0 0 0
unfolding digits
producer_and_consumer_prints_other_schedule = refl

producer_and_consumer_prints_schedule_3 : run RoundRobin 2000 100000 producer_and_consumer ≡ Printed (codes "0" ∷ []) 2 0 0 0 0
unfolding digits
producer_and_consumer_prints_schedule_3 = refl
