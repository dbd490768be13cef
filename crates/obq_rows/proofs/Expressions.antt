-- Operators, built-ins, loops and `try`, with their faults.
use Rattle.std.specs.Prelude.{List, [], codes, false, refl, true, ◌∷◌, ◌≡◌}
use Rattle.std.specs.Fmt.{digits}
use Rattle.obq_base.specs.declared.trees.Operator.{Operator}
use Rattle.obq_base.specs.Tree.{BlockTree, LetItem, LetRecItem, NoBinds, ABind, NoRecBinds, ARecBind, AProc}
use Rattle.obq_rows.specs.Sources.{block, then_run, bind_let, bind_rec, assign, set_index, int, below_zero, text, truth, okay, named, procedure, array, flags, object, arm, choose_arm, choose_arm_else, looped, leave_loop, counted, for_each, try_except, try_except_else, try_finally, raise_it, operated, call_named, index, print, exception_named}
use Rattle.obq_rows.specs.Schedule.{LowestFirst, Printed, run}

-- wr_putText(stdout, fmt_int(~7 / 2)); wr_putText(stdout, ","); wr_putText(stdout, fmt_int(~7 % 2)); wr_putText(stdout, ",");
--    wr_putText(stdout, fmt_int(7 / ~2)); wr_putText(stdout, ","); wr_putText(stdout, fmt_int(7 % ~2)); wr_putText(stdout, ",");
--    wr_putText(stdout, fmt_int(~9223372036854775808 % ~1));try ~9223372036854775808 / ~1 except exception("int_overflow") =>
--    wr_putText(stdout, "[int_overflow]") end;try 1 / 0 except exception("int_divide") => wr_putText(stdout, "[int_divide]")
--    end;try 1 % 0 except exception("int_divide") => wr_putText(stdout, "[int_divide]") end;
abbrev pub division : List BlockTree
division =
    block (
    then_run (print (call_named "fmt_int" (operated (below_zero 6) Operator.Divide (int 2) ∷ [])))
    ∷ then_run (print (text ","))
    ∷ then_run (print (call_named "fmt_int" (operated (below_zero 6) Operator.Remainder (int 2) ∷ [])))
    ∷ then_run (print (text ","))
    ∷ then_run (print (call_named "fmt_int" (operated (int 7) Operator.Divide (below_zero 1) ∷ [])))
    ∷ then_run (print (text ","))
    ∷ then_run (print (call_named "fmt_int" (operated (int 7) Operator.Remainder (below_zero 1) ∷ [])))
    ∷ then_run (print (text ","))
    ∷ then_run (print (call_named "fmt_int" (operated (below_zero 9223372036854775807) Operator.Remainder (below_zero 0) ∷ [])))
    ∷ then_run (try_except (then_run (operated (below_zero 9223372036854775807) Operator.Divide (below_zero 0)) ∷ []) (arm (exception_named "int_overflow") (then_run (print (text "[int_overflow]")) ∷ []) ∷ []))
    ∷ then_run (try_except (then_run (operated (int 1) Operator.Divide (int 0)) ∷ []) (arm (exception_named "int_divide") (then_run (print (text "[int_divide]")) ∷ []) ∷ []))
    ∷ then_run (try_except (then_run (operated (int 1) Operator.Remainder (int 0)) ∷ []) (arm (exception_named "int_divide") (then_run (print (text "[int_divide]")) ∷ []) ∷ []))
    ∷ []
    )
    ∷ []

division_prints : run LowestFirst 500 100000 division ≡ Printed (codes "-3,-1,-3,1,0[int_overflow][int_divide][int_divide]" ∷ []) 1 0 0 0 0
unfolding digits
division_prints = refl

-- try ~9223372036854775808 - 1 except exception("int_overflow") => wr_putText(stdout, "[int_overflow]") end;try
--    4611686018427387904 * 2 except exception("int_overflow") => wr_putText(stdout, "[int_overflow]") end;wr_putText(stdout,
--    fmt_int(4611686018427387904 * ~2)); wr_putText(stdout, fmt_bool(1 < 2)); wr_putText(stdout, fmt_bool(2 <= 1));
abbrev pub ranges : List BlockTree
ranges =
    block (
    then_run (try_except (then_run (operated (below_zero 9223372036854775807) Operator.Subtract (int 1)) ∷ []) (arm (exception_named "int_overflow") (then_run (print (text "[int_overflow]")) ∷ []) ∷ []))
    ∷ then_run (try_except (then_run (operated (int 4611686018427387904) Operator.Multiply (int 2)) ∷ []) (arm (exception_named "int_overflow") (then_run (print (text "[int_overflow]")) ∷ []) ∷ []))
    ∷ then_run (print (call_named "fmt_int" (operated (int 4611686018427387904) Operator.Multiply (below_zero 1) ∷ [])))
    ∷ then_run (print (call_named "fmt_bool" (operated (int 1) Operator.Less (int 2) ∷ [])))
    ∷ then_run (print (call_named "fmt_bool" (operated (int 2) Operator.LessEqual (int 1) ∷ [])))
    ∷ []
    )
    ∷ []

ranges_prints : run LowestFirst 500 100000 ranges ≡ Printed (codes "[int_overflow][int_overflow]-9223372036854775808truefalse" ∷ []) 1 0 0 0 0
unfolding digits
ranges_prints = refl

-- wr_putText(stdout, fmt_bool(1 is 1)); wr_putText(stdout, fmt_bool(1 is true)); wr_putText(stdout, fmt_bool("a" is "a"));
--    wr_putText(stdout, fmt_bool(exception("a") is exception("a"))); wr_putText(stdout, fmt_bool(ok isnot ok)); wr_putText(stdout,
--    fmt_bool({} is {}));try 1 is proc() ok end except exception("compare") => wr_putText(stdout, "[compare]") end;try
--    wr_putText(stdout, 1) except exception("type") => wr_putText(stdout, "[type]") end;try not(1, 2) except exception("arity") =>
--    wr_putText(stdout, "[arity]") end;
abbrev pub is_tests : List BlockTree
is_tests =
    block (
    then_run (print (call_named "fmt_bool" (operated (int 1) Operator.Is (int 1) ∷ [])))
    ∷ then_run (print (call_named "fmt_bool" (operated (int 1) Operator.Is (truth true) ∷ [])))
    ∷ then_run (print (call_named "fmt_bool" (operated (text "a") Operator.Is (text "a") ∷ [])))
    ∷ then_run (print (call_named "fmt_bool" (operated (exception_named "a") Operator.Is (exception_named "a") ∷ [])))
    ∷ then_run (print (call_named "fmt_bool" (operated okay Operator.IsNot okay ∷ [])))
    ∷ then_run (print (call_named "fmt_bool" (operated (object (flags false false) []) Operator.Is (object (flags false false) []) ∷ [])))
    ∷ then_run (try_except (then_run (operated (int 1) Operator.Is (procedure [] (then_run okay ∷ []))) ∷ []) (arm (exception_named "compare") (then_run (print (text "[compare]")) ∷ []) ∷ []))
    ∷ then_run (try_except (then_run (print (int 1)) ∷ []) (arm (exception_named "type") (then_run (print (text "[type]")) ∷ []) ∷ []))
    ∷ then_run (try_except (then_run (call_named "not" (int 1 ∷ int 2 ∷ [])) ∷ []) (arm (exception_named "arity") (then_run (print (text "[arity]")) ∷ []) ∷ []))
    ∷ []
    )
    ∷ []

is_tests_prints : run LowestFirst 500 100000 is_tests ≡ Printed (codes "truefalsetruetruefalsefalse[compare][type][arity]" ∷ []) 1 0 0 0 0
unfolding digits
is_tests_prints = refl

-- wr_putText(stdout, fmt_bool(true orif 1)); wr_putText(stdout, fmt_bool(false andif 1));try 1 orif true except exception("type")
--    => wr_putText(stdout, "[type]") end;if false then wr_putText(stdout, "a") elsif true then wr_putText(stdout, "b") else
--    wr_putText(stdout, "c") end; try if 1 then ok end except exception("type") => wr_putText(stdout, "[type]") end;
abbrev pub logic : List BlockTree
logic =
    block (
    then_run (print (call_named "fmt_bool" (operated (truth true) Operator.Orif (int 1) ∷ [])))
    ∷ then_run (print (call_named "fmt_bool" (operated (truth false) Operator.Andif (int 1) ∷ [])))
    ∷ then_run (try_except (then_run (operated (int 1) Operator.Orif (truth true)) ∷ []) (arm (exception_named "type") (then_run (print (text "[type]")) ∷ []) ∷ []))
    ∷ then_run (choose_arm_else (arm (truth false) (then_run (print (text "a")) ∷ []) ∷ arm (truth true) (then_run (print (text "b")) ∷ []) ∷ []) (then_run (print (text "c")) ∷ []))
    ∷ then_run (try_except (then_run (choose_arm (arm (int 1) (then_run okay ∷ []) ∷ [])) ∷ []) (arm (exception_named "type") (then_run (print (text "[type]")) ∷ []) ∷ []))
    ∷ []
    )
    ∷ []

logic_prints : run LowestFirst 500 100000 logic ≡ Printed (codes "truefalse[type]b[type]" ∷ []) 1 0 0 0 0
unfolding digits
logic_prints = refl

-- wr_putText(stdout, text_sub("abc", 1, 2)); wr_putText(stdout, text_sub("abc", 3, 0)); wr_putText(stdout,
--    fmt_int(text_length("abc")));try text_sub("abc", 2, 2) except exception("text_range") => wr_putText(stdout, "[text_range]")
--    end;try text_sub("abc", ~1, 2) except exception("text_range") => wr_putText(stdout, "[text_range]") end;
abbrev pub texts : List BlockTree
texts =
    block (
    then_run (print (call_named "text_sub" (text "abc" ∷ int 1 ∷ int 2 ∷ [])))
    ∷ then_run (print (call_named "text_sub" (text "abc" ∷ int 3 ∷ int 0 ∷ [])))
    ∷ then_run (print (call_named "fmt_int" (call_named "text_length" (text "abc" ∷ []) ∷ [])))
    ∷ then_run (try_except (then_run (call_named "text_sub" (text "abc" ∷ int 2 ∷ int 2 ∷ [])) ∷ []) (arm (exception_named "text_range") (then_run (print (text "[text_range]")) ∷ []) ∷ []))
    ∷ then_run (try_except (then_run (call_named "text_sub" (text "abc" ∷ below_zero 0 ∷ int 2 ∷ [])) ∷ []) (arm (exception_named "text_range") (then_run (print (text "[text_range]")) ∷ []) ∷ []))
    ∷ []
    )
    ∷ []

texts_prints : run LowestFirst 500 100000 texts ≡ Printed (codes "bc3[text_range][text_range]" ∷ []) 1 0 0 0 0
unfolding digits
texts_prints = refl

-- let a = [1, 2, 3]; a[1] := 5; foreach x in a do wr_putText(stdout, fmt_int(x)) end; wr_putText(stdout, fmt_int(array_size(a)));
--    try a[3] except exception("array_index") => wr_putText(stdout, "[array_index]") end;try a[~1] := 0 except
--    exception("array_index") => wr_putText(stdout, "[array_index]") end;try array_new(~1, 0) except exception("array_limit") =>
--    wr_putText(stdout, "[array_limit]") end;foreach x in a do if x is 5 then exit end; wr_putText(stdout, fmt_int(x)) end;
abbrev pub arrays : List BlockTree
arrays =
    block (
    bind_let "a" (array (int 1 ∷ int 2 ∷ int 3 ∷ []))
    ∷ set_index (named "a") (int 1) (int 5)
    ∷ then_run (for_each "x" (named "a") (then_run (print (call_named "fmt_int" (named "x" ∷ []))) ∷ []))
    ∷ then_run (print (call_named "fmt_int" (call_named "array_size" (named "a" ∷ []) ∷ [])))
    ∷ then_run (try_except (then_run (index (named "a") (int 3)) ∷ []) (arm (exception_named "array_index") (then_run (print (text "[array_index]")) ∷ []) ∷ []))
    ∷ then_run (try_except (set_index (named "a") (below_zero 0) (int 0) ∷ []) (arm (exception_named "array_index") (then_run (print (text "[array_index]")) ∷ []) ∷ []))
    ∷ then_run (try_except (then_run (call_named "array_new" (below_zero 0 ∷ int 0 ∷ [])) ∷ []) (arm (exception_named "array_limit") (then_run (print (text "[array_limit]")) ∷ []) ∷ []))
    ∷ then_run (for_each "x" (named "a") (then_run (choose_arm (arm (operated (named "x") Operator.Is (int 5)) (then_run leave_loop ∷ []) ∷ [])) ∷ then_run (print (call_named "fmt_int" (named "x" ∷ []))) ∷ []))
    ∷ []
    )
    ∷ []

arrays_prints : run LowestFirst 500 100000 arrays ≡ Printed (codes "1533[array_index][array_index][array_limit]1" ∷ []) 1 0 0 0 0
unfolding digits
arrays_prints = refl

-- for i = 3 to 2 do wr_putText(stdout, "x") end; for i = 9223372036854775807 to 9223372036854775807 do wr_putText(stdout, "y")
--    end; let p = proc() exit end; for i = 1 to 3 do wr_putText(stdout, fmt_int(i)); if i is 2 then p() end end;
abbrev pub loops : List BlockTree
loops =
    block (
    then_run (counted "i" (int 3) (int 2) (then_run (print (text "x")) ∷ []))
    ∷ then_run (counted "i" (int 9223372036854775807) (int 9223372036854775807) (then_run (print (text "y")) ∷ []))
    ∷ bind_let "p" (procedure [] (then_run leave_loop ∷ []))
    ∷ then_run (counted "i" (int 1) (int 3) (then_run (print (call_named "fmt_int" (named "i" ∷ []))) ∷ then_run (choose_arm (arm (operated (named "i") Operator.Is (int 2)) (then_run (call_named "p" []) ∷ []) ∷ [])) ∷ []))
    ∷ []
    )
    ∷ []

loops_prints : run LowestFirst 500 100000 loops ≡ Printed (codes "y12" ∷ []) 1 0 0 0 0
unfolding digits
loops_prints = refl

-- try raise(exception("b")) except exception("a") => wr_putText(stdout, "A") except exception("b") => wr_putText(stdout, "B") else
--    wr_putText(stdout, "C") end; try raise(exception("z")) except exception("a") => ok else wr_putText(stdout, "E") end; loop try
--    exit except exception("a") => ok else wr_putText(stdout, "no") end end; try try raise(exception("q")) except 1 => ok end
--    except exception("type") => wr_putText(stdout, "[type]") end;try raise(1) except exception("type") => wr_putText(stdout,
--    "[type]") end;try try raise(exception("f")) finally wr_putText(stdout, "F") end except exception("f") => wr_putText(stdout,
--    "[f]") end;try try raise(exception("r")) finally raise(exception("s")) end except exception("s") => wr_putText(stdout, "S")
--    end;
abbrev pub tries : List BlockTree
tries =
    block (
    then_run (try_except_else (then_run (raise_it (exception_named "b")) ∷ []) (arm (exception_named "a") (then_run (print (text "A")) ∷ []) ∷ arm (exception_named "b") (then_run (print (text "B")) ∷ []) ∷ []) (then_run (print (text "C")) ∷ []))
    ∷ then_run (try_except_else (then_run (raise_it (exception_named "z")) ∷ []) (arm (exception_named "a") (then_run okay ∷ []) ∷ []) (then_run (print (text "E")) ∷ []))
    ∷ then_run (looped (then_run (try_except_else (then_run leave_loop ∷ []) (arm (exception_named "a") (then_run okay ∷ []) ∷ []) (then_run (print (text "no")) ∷ [])) ∷ []))
    ∷ then_run (try_except (then_run (try_except (then_run (raise_it (exception_named "q")) ∷ []) (arm (int 1) (then_run okay ∷ []) ∷ [])) ∷ []) (arm (exception_named "type") (then_run (print (text "[type]")) ∷ []) ∷ []))
    ∷ then_run (try_except (then_run (raise_it (int 1)) ∷ []) (arm (exception_named "type") (then_run (print (text "[type]")) ∷ []) ∷ []))
    ∷ then_run (try_except (then_run (try_finally (then_run (raise_it (exception_named "f")) ∷ []) (then_run (print (text "F")) ∷ [])) ∷ []) (arm (exception_named "f") (then_run (print (text "[f]")) ∷ []) ∷ []))
    ∷ then_run (try_except (then_run (try_finally (then_run (raise_it (exception_named "r")) ∷ []) (then_run (raise_it (exception_named "s")) ∷ [])) ∷ []) (arm (exception_named "s") (then_run (print (text "S")) ∷ []) ∷ []))
    ∷ []
    )
    ∷ []

tries_prints : run LowestFirst 500 100000 tries ≡ Printed (codes "BE[type][type]F[f]S" ∷ []) 1 0 0 0 0
unfolding digits
tries_prints = refl

-- let f = proc(x, x) fmt_int(x) end; wr_putText(stdout, f(1, 2)); let rec g = proc(n) if n is 0 then "g" else h(n - 1) end end, h
--    = proc(n) if n is 0 then "h" else g(n - 1) end end; wr_putText(stdout, g(3)); let x = 1, x = x + 1; wr_putText(stdout,
--    fmt_int(x)); let rec k = proc(k) k end; wr_putText(stdout, k("k")); try x := 3 except exception("not_var") =>
--    wr_putText(stdout, "[not_var]") end;try stdout := 3 except exception("not_var") => wr_putText(stdout, "[not_var]") end;
abbrev pub names_bind : List BlockTree
names_bind =
    block (
    bind_let "f" (procedure (codes "x" ∷ codes "x" ∷ []) (then_run (call_named "fmt_int" (named "x" ∷ [])) ∷ []))
    ∷ then_run (print (call_named "f" (int 1 ∷ int 2 ∷ [])))
    ∷ LetRecItem (ARecBind (codes "g") (AProc (codes "n" ∷ []) (block (then_run (choose_arm_else (arm (operated (named "n") Operator.Is (int 0)) (then_run (text "g") ∷ []) ∷ []) (then_run (call_named "h" (operated (named "n") Operator.Subtract (int 1) ∷ [])) ∷ [])) ∷ [])) 0) 0 (ARecBind (codes "h") (AProc (codes "n" ∷ []) (block (then_run (choose_arm_else (arm (operated (named "n") Operator.Is (int 0)) (then_run (text "h") ∷ []) ∷ []) (then_run (call_named "g" (operated (named "n") Operator.Subtract (int 1) ∷ [])) ∷ [])) ∷ [])) 0) 0 NoRecBinds)) 0
    ∷ then_run (print (call_named "g" (int 3 ∷ [])))
    ∷ LetItem (ABind (codes "x") (int 1) 0 (ABind (codes "x") (operated (named "x") Operator.Add (int 1)) 0 NoBinds)) 0
    ∷ then_run (print (call_named "fmt_int" (named "x" ∷ [])))
    ∷ bind_rec "k" (codes "k" ∷ []) (then_run (named "k") ∷ [])
    ∷ then_run (print (call_named "k" (text "k" ∷ [])))
    ∷ then_run (try_except (assign "x" (int 3) ∷ []) (arm (exception_named "not_var") (then_run (print (text "[not_var]")) ∷ []) ∷ []))
    ∷ then_run (try_except (assign "stdout" (int 3) ∷ []) (arm (exception_named "not_var") (then_run (print (text "[not_var]")) ∷ []) ∷ []))
    ∷ []
    )
    ∷ []

names_bind_prints : run LowestFirst 500 100000 names_bind ≡ Printed (codes "2h2k[not_var][not_var]" ∷ []) 1 0 0 0 0
unfolding digits
names_bind_prints = refl
