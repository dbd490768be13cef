-- Programs that tell apart readings of the rules that lie close together.
use Rattle.std.specs.Prelude.{List, [], codes, false, refl, true, ◌∷◌, ◌≡◌}
use Rattle.std.specs.Fmt.{digits}
use Rattle.obq_base.specs.declared.trees.Operator.{Operator}
use Rattle.obq_base.specs.Tree.{BlockTree}
use Rattle.obq_rows.specs.Sources.{block, then_run, bind_let, set_value, set_alias, int, below_zero, text, okay, named, procedure, flags, object, value_field, method_field, alias_field, arm, looped, leave_loop, try_except, try_except_else, try_finally, raise_it, clone_of, operated, selected, invoked, suffixed, call_named, select, print, exception_named}
use Rattle.obq_rows.specs.Schedule.{LowestFirst, Printed, run}

-- let f = proc(a, a) a end; wr_putText(stdout, fmt_int(f(1, 2)));
abbrev pub equal_parameters : List BlockTree
equal_parameters =
    block (
    bind_let "f" (procedure (codes "a" ∷ codes "a" ∷ []) (then_run (named "a") ∷ []))
    ∷ then_run (print (call_named "fmt_int" (call_named "f" (int 1 ∷ int 2 ∷ []) ∷ [])))
    ∷ []
    )
    ∷ []

equal_parameters_prints : run LowestFirst 100 100000 equal_parameters ≡ Printed (codes "2" ∷ []) 1 0 0 0 0
unfolding digits
equal_parameters_prints = refl

-- try try raise(exception("a")) except raise(exception("b")) => wr_putText(stdout, "own") except exception("b") =>
--    wr_putText(stdout, "next") end except exception("b") => wr_putText(stdout, "outer") end;
abbrev pub a_guard_raises : List BlockTree
a_guard_raises =
    block (
    then_run (try_except (then_run (try_except (then_run (raise_it (exception_named "a")) ∷ []) (arm (raise_it (exception_named "b")) (then_run (print (text "own")) ∷ []) ∷ arm (exception_named "b") (then_run (print (text "next")) ∷ []) ∷ [])) ∷ []) (arm (exception_named "b") (then_run (print (text "outer")) ∷ []) ∷ []))
    ∷ []
    )
    ∷ []

a_guard_raises_prints : run LowestFirst 200 100000 a_guard_raises ≡ Printed (codes "outer" ∷ []) 1 0 0 0 0
unfolding digits
a_guard_raises_prints = refl

-- loop try exit except exception("a") => ok else wr_putText(stdout, "else") end end; wr_putText(stdout, "out");
abbrev pub exit_passes_else : List BlockTree
exit_passes_else =
    block (
    then_run (looped (then_run (try_except_else (then_run leave_loop ∷ []) (arm (exception_named "a") (then_run okay ∷ []) ∷ []) (then_run (print (text "else")) ∷ [])) ∷ []))
    ∷ then_run (print (text "out"))
    ∷ []
    )
    ∷ []

exit_passes_else_prints : run LowestFirst 200 100000 exit_passes_else ≡ Printed (codes "out" ∷ []) 1 0 0 0 0
unfolding digits
exit_passes_else_prints = refl

-- wr_putText(stdout, try "kept" finally "final" end);
abbrev pub finally_keeps : List BlockTree
finally_keeps =
    block (
    then_run (print (try_finally (then_run (text "kept") ∷ []) (then_run (text "final") ∷ [])))
    ∷ []
    )
    ∷ []

finally_keeps_prints : run LowestFirst 100 100000 finally_keeps ≡ Printed (codes "kept" ∷ []) 1 0 0 0 0
unfolding digits
finally_keeps_prints = refl

-- try try raise(exception("a")) finally ok end except exception("a") => wr_putText(stdout, "on") end;
abbrev pub finally_raises_on : List BlockTree
finally_raises_on =
    block (
    then_run (try_except (then_run (try_finally (then_run (raise_it (exception_named "a")) ∷ []) (then_run okay ∷ [])) ∷ []) (arm (exception_named "a") (then_run (print (text "on")) ∷ []) ∷ []))
    ∷ []
    )
    ∷ []

finally_raises_on_prints : run LowestFirst 100 100000 finally_raises_on ≡ Printed (codes "on" ∷ []) 1 0 0 0 0
unfolding digits
finally_raises_on_prints = refl

-- wr_putText(stdout, fmt_int(~9223372036854775808 % ~1)); try ~9223372036854775808 / ~1 except exception("int_overflow") =>
--    wr_putText(stdout, "!") end;
abbrev pub least_remainder : List BlockTree
least_remainder =
    block (
    then_run (print (call_named "fmt_int" (operated (below_zero 9223372036854775807) Operator.Remainder (below_zero 0) ∷ [])))
    ∷ then_run (try_except (then_run (operated (below_zero 9223372036854775807) Operator.Divide (below_zero 0)) ∷ []) (arm (exception_named "int_overflow") (then_run (print (text "!")) ∷ []) ∷ []))
    ∷ []
    )
    ∷ []

least_remainder_prints : run LowestFirst 200 100000 least_remainder ≡ Printed (codes "0!" ∷ []) 1 0 0 0 0
unfolding digits
least_remainder_prints = refl

-- let p = {protected, x => 1, me => meth(s) clone(s) end}; try clone(p) except exception("protected") => wr_putText(stdout, "no")
--    end; wr_putText(stdout, fmt_int(p.me().x));
abbrev pub copy_of_protected : List BlockTree
copy_of_protected =
    block (
    bind_let "p" (object (flags true false) (value_field "x" (int 1) ∷ method_field "me" (codes "s" ∷ []) (then_run (clone_of (named "s" ∷ [])) ∷ []) ∷ []))
    ∷ then_run (try_except (then_run (clone_of (named "p" ∷ [])) ∷ []) (arm (exception_named "protected") (then_run (print (text "no")) ∷ []) ∷ []))
    ∷ then_run (print (call_named "fmt_int" (suffixed (named "p") (invoked "me" [] ∷ selected "x" ∷ []) ∷ [])))
    ∷ []
    )
    ∷ []

copy_of_protected_prints : run LowestFirst 200 100000 copy_of_protected ≡ Printed (codes "no1" ∷ []) 1 0 0 0 0
unfolding digits
copy_of_protected_prints = refl

-- let p = {y => 1}; let q = {y => 2}; let o = {x => alias y of p end}; o.x := alias y of q end; wr_putText(stdout, fmt_int(o.x) &
--    fmt_int(p.y));
abbrev pub alias_is_replaced : List BlockTree
alias_is_replaced =
    block (
    bind_let "p" (object (flags false false) (value_field "y" (int 1) ∷ []))
    ∷ bind_let "q" (object (flags false false) (value_field "y" (int 2) ∷ []))
    ∷ bind_let "o" (object (flags false false) (alias_field "x" "y" (named "p") ∷ []))
    ∷ set_alias (named "o") "x" "y" (named "q")
    ∷ then_run (print (operated (call_named "fmt_int" (select (named "o") "x" ∷ [])) Operator.Join (call_named "fmt_int" (select (named "p") "y" ∷ []))))
    ∷ []
    )
    ∷ []

alias_is_replaced_prints : run LowestFirst 200 100000 alias_is_replaced ≡ Printed (codes "21" ∷ []) 1 0 0 0 0
unfolding digits
alias_is_replaced_prints = refl

-- let p = {y => 1}; let o = {x => alias y of p end}; o.x := 3; wr_putText(stdout, fmt_int(p.y)); p.y := 4; wr_putText(stdout,
--    fmt_int(o.x));
abbrev pub an_update_hops : List BlockTree
an_update_hops =
    block (
    bind_let "p" (object (flags false false) (value_field "y" (int 1) ∷ []))
    ∷ bind_let "o" (object (flags false false) (alias_field "x" "y" (named "p") ∷ []))
    ∷ set_value (named "o") "x" (int 3)
    ∷ then_run (print (call_named "fmt_int" (select (named "p") "y" ∷ [])))
    ∷ set_value (named "p") "y" (int 4)
    ∷ then_run (print (call_named "fmt_int" (select (named "o") "x" ∷ [])))
    ∷ []
    )
    ∷ []

an_update_hops_prints : run LowestFirst 200 100000 an_update_hops ≡ Printed (codes "34" ∷ []) 1 0 0 0 0
unfolding digits
an_update_hops_prints = refl
