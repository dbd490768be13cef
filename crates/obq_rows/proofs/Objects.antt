-- Objects: aliases, protection, clones, serialized objects that wait, watching.
use Rattle.std.specs.Prelude.{List, [], codes, false, refl, true, ◌∷◌, ◌≡◌}
use Rattle.std.specs.Fmt.{digits}
use Rattle.obq_base.specs.declared.trees.Operator.{Operator}
use Rattle.obq_base.specs.Tree.{BlockTree}
use Rattle.obq_rows.specs.Sources.{block, then_run, bind_let, set_value, set_method, set_alias, int, text, truth, named, flags, object, value_field, method_field, alias_field, arm, try_except, raise_it, watch_until, redirect_to, clone_of, operated, call_named, select, call_method, print, exception_named}
use Rattle.obq_rows.specs.Schedule.{LowestFirst, Printed, run}

-- let p = {y => 1, get => meth(s) s.y end}; let o = {x => alias y of p end, get => alias get of p end}; o.x := 5;
--    wr_putText(stdout, fmt_int(p.y) & fmt_int(o.get())); let q = {y => 8}; o.x := alias y of q end; wr_putText(stdout,
--    fmt_int(o.x) & fmt_int(p.y));
abbrev pub aliases : List BlockTree
aliases =
    block (
    bind_let "p" (object (flags false false) (value_field "y" (int 1) ∷ method_field "get" (codes "s" ∷ []) (then_run (select (named "s") "y") ∷ []) ∷ []))
    ∷ bind_let "o" (object (flags false false) (alias_field "x" "y" (named "p") ∷ alias_field "get" "get" (named "p") ∷ []))
    ∷ set_value (named "o") "x" (int 5)
    ∷ then_run (print (operated (call_named "fmt_int" (select (named "p") "y" ∷ [])) Operator.Join (call_named "fmt_int" (call_method (named "o") "get" [] ∷ []))))
    ∷ bind_let "q" (object (flags false false) (value_field "y" (int 8) ∷ []))
    ∷ set_alias (named "o") "x" "y" (named "q")
    ∷ then_run (print (operated (call_named "fmt_int" (select (named "o") "x" ∷ [])) Operator.Join (call_named "fmt_int" (select (named "p") "y" ∷ []))))
    ∷ []
    )
    ∷ []

aliases_prints : run LowestFirst 200 100000 aliases ≡ Printed (codes "5585" ∷ []) 1 0 0 0 0
unfolding digits
aliases_prints = refl

-- let o = {protected, n => 1, set => meth(s, k) s.n := k end}; try o.n := 2 except exception("protected") => wr_putText(stdout,
--    "no") end; o.set(3); wr_putText(stdout, fmt_int(o.n));
abbrev pub protected_object : List BlockTree
protected_object =
    block (
    bind_let "o" (object (flags true false) (value_field "n" (int 1) ∷ method_field "set" (codes "s" ∷ codes "k" ∷ []) (set_value (named "s") "n" (named "k") ∷ []) ∷ []))
    ∷ then_run (try_except (set_value (named "o") "n" (int 2) ∷ []) (arm (exception_named "protected") (then_run (print (text "no")) ∷ []) ∷ []))
    ∷ then_run (call_method (named "o") "set" (int 3 ∷ []))
    ∷ then_run (print (call_named "fmt_int" (select (named "o") "n" ∷ [])))
    ∷ []
    )
    ∷ []

protected_object_prints : run LowestFirst 200 100000 protected_object ≡ Printed (codes "no3" ∷ []) 1 0 0 0 0
unfolding digits
protected_object_prints = refl

-- let a = {x => 1}; let b = {y => 2}; let c = clone(a, b); a.x := 9; wr_putText(stdout, fmt_int(c.x) & fmt_int(c.y)); clone(a, a);
abbrev pub clones : List BlockTree
clones =
    block (
    bind_let "a" (object (flags false false) (value_field "x" (int 1) ∷ []))
    ∷ bind_let "b" (object (flags false false) (value_field "y" (int 2) ∷ []))
    ∷ bind_let "c" (clone_of (named "a" ∷ named "b" ∷ []))
    ∷ set_value (named "a") "x" (int 9)
    ∷ then_run (print (operated (call_named "fmt_int" (select (named "c") "x" ∷ [])) Operator.Join (call_named "fmt_int" (select (named "c") "y" ∷ []))))
    ∷ then_run (clone_of (named "a" ∷ named "a" ∷ []))
    ∷ []
    )
    ∷ []

clones_prints : run LowestFirst 300 100000 clones ≡ Printed (codes "12" ∷ []) 0 1 0 0 10
unfolding digits
clones_prints = refl

-- let a = {x => 0}; let b = {x => alias x of a end}; a.x := alias x of b end; a.x;
abbrev pub alias_cycle : List BlockTree
alias_cycle =
    block (
    bind_let "a" (object (flags false false) (value_field "x" (int 0) ∷ []))
    ∷ bind_let "b" (object (flags false false) (alias_field "x" "x" (named "a") ∷ []))
    ∷ set_alias (named "a") "x" "x" (named "b")
    ∷ then_run (select (named "a") "x")
    ∷ []
    )
    ∷ []

alias_cycle_prints : run LowestFirst 200 50 alias_cycle ≡ Printed ([] ∷ []) 0 0 0 1 12
unfolding digits
alias_cycle_prints = refl

-- let o = {serialized, run => meth(s, p) p.back(s) end}; let p = {back => meth(s, o) o.run(s) end}; o.run(p);
abbrev pub two_wait_for_each_other : List BlockTree
two_wait_for_each_other =
    block (
    bind_let "o" (object (flags false true) (method_field "run" (codes "s" ∷ codes "p" ∷ []) (then_run (call_method (named "p") "back" (named "s" ∷ [])) ∷ []) ∷ []))
    ∷ bind_let "p" (object (flags false false) (method_field "back" (codes "s" ∷ codes "o" ∷ []) (then_run (call_method (named "o") "run" (named "s" ∷ [])) ∷ []) ∷ []))
    ∷ then_run (call_method (named "o") "run" (named "p" ∷ []))
    ∷ []
    )
    ∷ []

two_wait_for_each_other_prints : run LowestFirst 200 100000 two_wait_for_each_other ≡ Printed ([] ∷ []) 0 0 1 0 11
unfolding digits
two_wait_for_each_other_prints = refl

-- try {x => 1, x => 2} except exception("field_twice") => wr_putText(stdout, "[field_twice]") end;try {x => alias y of 1 end}
--    except exception("type") => wr_putText(stdout, "[type]") end;let o = {v => 1, m => meth(s, a) a end}; try o.w except
--    exception("field_missing") => wr_putText(stdout, "[field_missing]") end;try o.m except exception("not_value") =>
--    wr_putText(stdout, "[not_value]") end;try o.v() except exception("not_method") => wr_putText(stdout, "[not_method]") end;try
--    o.m() except exception("arity") => wr_putText(stdout, "[arity]") end;try o.v := alias q of 1 end except exception("type") =>
--    wr_putText(stdout, "[type]") end;o.v := meth(s) "V" end; wr_putText(stdout, o.v()); let q = {n => alias m of o end, w =>
--    alias v of o end}; wr_putText(stdout, q.n("N")); q.w := meth(s) "W" end; wr_putText(stdout, o.v()); try redirect o to 1 end
--    except exception("type") => wr_putText(stdout, "[type]") end;try clone(1) except exception("type") => wr_putText(stdout,
--    "[type]") end;
abbrev pub objects : List BlockTree
objects =
    block (
    then_run (try_except (then_run (object (flags false false) (value_field "x" (int 1) ∷ value_field "x" (int 2) ∷ [])) ∷ []) (arm (exception_named "field_twice") (then_run (print (text "[field_twice]")) ∷ []) ∷ []))
    ∷ then_run (try_except (then_run (object (flags false false) (alias_field "x" "y" (int 1) ∷ [])) ∷ []) (arm (exception_named "type") (then_run (print (text "[type]")) ∷ []) ∷ []))
    ∷ bind_let "o" (object (flags false false) (value_field "v" (int 1) ∷ method_field "m" (codes "s" ∷ codes "a" ∷ []) (then_run (named "a") ∷ []) ∷ []))
    ∷ then_run (try_except (then_run (select (named "o") "w") ∷ []) (arm (exception_named "field_missing") (then_run (print (text "[field_missing]")) ∷ []) ∷ []))
    ∷ then_run (try_except (then_run (select (named "o") "m") ∷ []) (arm (exception_named "not_value") (then_run (print (text "[not_value]")) ∷ []) ∷ []))
    ∷ then_run (try_except (then_run (call_method (named "o") "v" []) ∷ []) (arm (exception_named "not_method") (then_run (print (text "[not_method]")) ∷ []) ∷ []))
    ∷ then_run (try_except (then_run (call_method (named "o") "m" []) ∷ []) (arm (exception_named "arity") (then_run (print (text "[arity]")) ∷ []) ∷ []))
    ∷ then_run (try_except (set_alias (named "o") "v" "q" (int 1) ∷ []) (arm (exception_named "type") (then_run (print (text "[type]")) ∷ []) ∷ []))
    ∷ set_method (named "o") "v" (codes "s" ∷ []) (then_run (text "V") ∷ [])
    ∷ then_run (print (call_method (named "o") "v" []))
    ∷ bind_let "q" (object (flags false false) (alias_field "n" "m" (named "o") ∷ alias_field "w" "v" (named "o") ∷ []))
    ∷ then_run (print (call_method (named "q") "n" (text "N" ∷ [])))
    ∷ set_method (named "q") "w" (codes "s" ∷ []) (then_run (text "W") ∷ [])
    ∷ then_run (print (call_method (named "o") "v" []))
    ∷ then_run (try_except (then_run (redirect_to (named "o") (int 1)) ∷ []) (arm (exception_named "type") (then_run (print (text "[type]")) ∷ []) ∷ []))
    ∷ then_run (try_except (then_run (clone_of (int 1 ∷ [])) ∷ []) (arm (exception_named "type") (then_run (print (text "[type]")) ∷ []) ∷ []))
    ∷ []
    )
    ∷ []

objects_prints : run LowestFirst 1000 100000 objects ≡ Printed (codes "[field_twice][type][field_missing][not_value][not_method][arity][type]VNW[type][type]" ∷ []) 1 0 0 0 0
unfolding digits
objects_prints = refl

-- let o = {protected, x => 1, c => meth(s) clone(s) end}; try clone(o) except exception("protected") => wr_putText(stdout,
--    "[protected]") end;try redirect o to o end except exception("protected") => wr_putText(stdout, "[protected]") end;let d =
--    o.c(); wr_putText(stdout, fmt_int(d.x));try d.x := 1 except exception("protected") => wr_putText(stdout, "[protected]") end;
abbrev pub protection : List BlockTree
protection =
    block (
    bind_let "o" (object (flags true false) (value_field "x" (int 1) ∷ method_field "c" (codes "s" ∷ []) (then_run (clone_of (named "s" ∷ [])) ∷ []) ∷ []))
    ∷ then_run (try_except (then_run (clone_of (named "o" ∷ [])) ∷ []) (arm (exception_named "protected") (then_run (print (text "[protected]")) ∷ []) ∷ []))
    ∷ then_run (try_except (then_run (redirect_to (named "o") (named "o")) ∷ []) (arm (exception_named "protected") (then_run (print (text "[protected]")) ∷ []) ∷ []))
    ∷ bind_let "d" (call_method (named "o") "c" [])
    ∷ then_run (print (call_named "fmt_int" (select (named "d") "x" ∷ [])))
    ∷ then_run (try_except (set_value (named "d") "x" (int 1) ∷ []) (arm (exception_named "protected") (then_run (print (text "[protected]")) ∷ []) ∷ []))
    ∷ []
    )
    ∷ []

protection_prints : run LowestFirst 500 100000 protection ≡ Printed (codes "[protected][protected]1[protected]" ∷ []) 1 0 0 0 0
unfolding digits
protection_prints = refl

-- let c = condition(); try watch c until true end except exception("not_serialized") => wr_putText(stdout, "[not_serialized]")
--    end;let o = {m => meth(s) watch c until true end end}; try o.m() except exception("not_serialized") => wr_putText(stdout,
--    "[not_serialized]") end;let p = {serialized, m => meth(s) watch 1 until true end end, n => meth(s) watch c until 1 end end, k
--    => meth(s) watch c until true end; "k" end}; try p.m() except exception("type") => wr_putText(stdout, "[type]") end;try p.n()
--    except exception("type") => wr_putText(stdout, "[type]") end;wr_putText(stdout, p.k());
abbrev pub watching : List BlockTree
watching =
    block (
    bind_let "c" (call_named "condition" [])
    ∷ then_run (try_except (then_run (watch_until (named "c") (truth true)) ∷ []) (arm (exception_named "not_serialized") (then_run (print (text "[not_serialized]")) ∷ []) ∷ []))
    ∷ bind_let "o" (object (flags false false) (method_field "m" (codes "s" ∷ []) (then_run (watch_until (named "c") (truth true)) ∷ []) ∷ []))
    ∷ then_run (try_except (then_run (call_method (named "o") "m" []) ∷ []) (arm (exception_named "not_serialized") (then_run (print (text "[not_serialized]")) ∷ []) ∷ []))
    ∷ bind_let "p" (object (flags false true) (method_field "m" (codes "s" ∷ []) (then_run (watch_until (int 1) (truth true)) ∷ []) ∷ method_field "n" (codes "s" ∷ []) (then_run (watch_until (named "c") (int 1)) ∷ []) ∷ method_field "k" (codes "s" ∷ []) (then_run (watch_until (named "c") (truth true)) ∷ then_run (text "k") ∷ []) ∷ []))
    ∷ then_run (try_except (then_run (call_method (named "p") "m" []) ∷ []) (arm (exception_named "type") (then_run (print (text "[type]")) ∷ []) ∷ []))
    ∷ then_run (try_except (then_run (call_method (named "p") "n" []) ∷ []) (arm (exception_named "type") (then_run (print (text "[type]")) ∷ []) ∷ []))
    ∷ then_run (print (call_method (named "p") "k" []))
    ∷ []
    )
    ∷ []

watching_prints : run LowestFirst 500 100000 watching ≡ Printed (codes "[not_serialized][not_serialized][type][type]k" ∷ []) 1 0 0 0 0
unfolding digits
watching_prints = refl

-- let o = {serialized, a => meth(s) s.b() end, b => meth(s) raise(exception("r")) end}; try o.a() except exception("r") =>
--    wr_putText(stdout, "r") end; wr_putText(stdout, try o.a() except exception("r") => "again" end);
abbrev pub raising_out_of_a_self_call : List BlockTree
raising_out_of_a_self_call =
    block (
    bind_let "o" (object (flags false true) (method_field "a" (codes "s" ∷ []) (then_run (call_method (named "s") "b" []) ∷ []) ∷ method_field "b" (codes "s" ∷ []) (then_run (raise_it (exception_named "r")) ∷ []) ∷ []))
    ∷ then_run (try_except (then_run (call_method (named "o") "a" []) ∷ []) (arm (exception_named "r") (then_run (print (text "r")) ∷ []) ∷ []))
    ∷ then_run (print (try_except (then_run (call_method (named "o") "a" []) ∷ []) (arm (exception_named "r") (then_run (text "again") ∷ []) ∷ [])))
    ∷ []
    )
    ∷ []

raising_out_of_a_self_call_prints : run LowestFirst 300 100000 raising_out_of_a_self_call ≡ Printed (codes "ragain" ∷ []) 1 0 0 0 0
unfolding digits
raising_out_of_a_self_call_prints = refl
