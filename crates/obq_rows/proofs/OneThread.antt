-- Programs of one thread: texts, names, exceptions, loops.
use Rattle.std.specs.Prelude.{List, [], codes, refl, ◌∷◌, ◌≡◌}
use Rattle.std.specs.Fmt.{digits}
use Rattle.obq_base.specs.declared.trees.Operator.{Operator}
use Rattle.obq_base.specs.Tree.{BlockTree}
use Rattle.obq_rows.specs.Sources.{block, then_run, bind_let, bind_var, assign, int, text, named, procedure, arm, looped, leave_loop, try_except, try_finally, operated, then_operate, chained, call_named, print, exception_named}
use Rattle.obq_rows.specs.Schedule.{LowestFirst, Printed, run}

-- wr_putText(stdout, "hi");
abbrev pub hello : List BlockTree
hello =
    block (
    then_run (print (text "hi"))
    ∷ []
    )
    ∷ []

hello_prints : run LowestFirst 100 100000 hello ≡ Printed (codes "hi" ∷ []) 1 0 0 0 0
unfolding digits
hello_prints = refl

-- the empty program
abbrev pub nothing : List BlockTree
nothing =
    block []
    ∷ []

nothing_prints : run LowestFirst 100 100000 nothing ≡ Printed ([] ∷ []) 1 0 0 0 0
unfolding digits
nothing_prints = refl

-- try wr_putText(stdout, fmt_int(9223372036854775807 + 1)) except exception("int_overflow") => wr_putText(stdout, "over") end;
abbrev pub overflow_caught : List BlockTree
overflow_caught =
    block (
    then_run (try_except (then_run (print (call_named "fmt_int" (operated (int 9223372036854775807) Operator.Add (int 1) ∷ []))) ∷ []) (arm (exception_named "int_overflow") (then_run (print (text "over")) ∷ []) ∷ []))
    ∷ []
    )
    ∷ []

overflow_caught_prints : run LowestFirst 100 100000 overflow_caught ≡ Printed (codes "over" ∷ []) 1 0 0 0 0
unfolding digits
overflow_caught_prints = refl

-- wr_putText(stdout, fmt_int(9223372036854775807 + 1));
abbrev pub overflow_uncaught : List BlockTree
overflow_uncaught =
    block (
    then_run (print (call_named "fmt_int" (operated (int 9223372036854775807) Operator.Add (int 1) ∷ [])))
    ∷ []
    )
    ∷ []

overflow_uncaught_prints : run LowestFirst 100 100000 overflow_uncaught ≡ Printed ([] ∷ []) 0 1 0 0 10
unfolding digits
overflow_uncaught_prints = refl

-- let x = 1; let f = proc() x end; let x = 2; var v = 3; let g = proc() v end; v := 4; wr_putText(stdout, fmt_int(f()) &
--    fmt_int(x) & fmt_int(g()));
abbrev pub names_and_variables : List BlockTree
names_and_variables =
    block (
    bind_let "x" (int 1)
    ∷ bind_let "f" (procedure [] (then_run (named "x") ∷ []))
    ∷ bind_let "x" (int 2)
    ∷ bind_var "v" (int 3)
    ∷ bind_let "g" (procedure [] (then_run (named "v") ∷ []))
    ∷ assign "v" (int 4)
    ∷ then_run (print (chained (call_named "fmt_int" (call_named "f" [] ∷ [])) (then_operate Operator.Join (call_named "fmt_int" (named "x" ∷ [])) ∷ then_operate Operator.Join (call_named "fmt_int" (call_named "g" [] ∷ [])) ∷ [])))
    ∷ []
    )
    ∷ []

names_and_variables_prints : run LowestFirst 200 100000 names_and_variables ≡ Printed (codes "124" ∷ []) 1 0 0 0 0
unfolding digits
names_and_variables_prints = refl

-- let f = proc() exit end; loop try f() finally wr_putText(stdout, "z") end end; wr_putText(stdout, "q");
abbrev pub exit_through_finally : List BlockTree
exit_through_finally =
    block (
    bind_let "f" (procedure [] (then_run leave_loop ∷ []))
    ∷ then_run (looped (then_run (try_finally (then_run (call_named "f" []) ∷ []) (then_run (print (text "z")) ∷ [])) ∷ []))
    ∷ then_run (print (text "q"))
    ∷ []
    )
    ∷ []

exit_through_finally_prints : run LowestFirst 300 100000 exit_through_finally ≡ Printed (codes "zq" ∷ []) 1 0 0 0 0
unfolding digits
exit_through_finally_prints = refl

-- exit;
abbrev pub exit_outside_a_loop : List BlockTree
exit_outside_a_loop =
    block (
    then_run leave_loop
    ∷ []
    )
    ∷ []

exit_outside_a_loop_prints : run LowestFirst 300 100000 exit_outside_a_loop ≡ Printed ([] ∷ []) 0 1 0 0 10
unfolding digits
exit_outside_a_loop_prints = refl
