-- Which act stands next: watching, leaving a method, waiting at an object.
use Rattle.std.specs.Prelude.{List, None, Some, [], codes, false, is_some, refl, true, ◌∷◌, ◌≡◌}
use Rattle.obq_base.specs.declared.acts.ActKind.{ActKind}
use Rattle.obq_base.specs.Tree.{BlockTree}
use Rattle.obq_model.specs.Config.{act}
use Rattle.obq_model.specs.Replay.{replay}
use Rattle.obq_rows.specs.Sources.{block, then_run, bind_let, int, truth, named, procedure, flags, object, value_field, method_field, alias_field, raise_it, watch_until, call_named, select, call_method, exception_named}
use Rattle.obq_rows.specs.Schedule.{entry, Printed, result}

-- let c = condition(); let b = {serialized, m => meth(s) watch c until false end end}; b.m();
abbrev pub watcher : List BlockTree
watcher =
    block (
    bind_let "c" (call_named "condition" [])
    ∷ bind_let "b" (object (flags false true) (method_field "m" (codes "s" ∷ []) (then_run (watch_until (named "c") (truth false)) ∷ []) ∷ []))
    ∷ then_run (call_method (named "b") "m" [])
    ∷ []
    )
    ∷ []

-- a watch lines up before it gives the mutex up

it_lines_up_first : is_some (replay watcher 100000 (entry 0 0 (Some (act ActKind.New 1)) ∷ entry 0 1 (Some (act ActKind.New 2)) ∷ entry 0 1 (Some (act ActKind.Call 2)) ∷ entry 0 1 (Some (act ActKind.Line 1)) ∷ entry 0 0 (Some (act ActKind.GiveUp 2)) ∷ [])) ≡ true
it_lines_up_first = refl

it_gives_up_second : is_some (replay watcher 100000 (entry 0 0 (Some (act ActKind.New 1)) ∷ entry 0 1 (Some (act ActKind.New 2)) ∷ entry 0 1 (Some (act ActKind.Call 2)) ∷ entry 0 1 (Some (act ActKind.GiveUp 2)) ∷ [])) ≡ false
it_gives_up_second = refl

it_waits_in_the_line : is_some (replay watcher 100000 (entry 0 0 (Some (act ActKind.New 1)) ∷ entry 0 1 (Some (act ActKind.New 2)) ∷ entry 0 1 (Some (act ActKind.Call 2)) ∷ entry 0 1 (Some (act ActKind.Line 1)) ∷ entry 0 0 (Some (act ActKind.GiveUp 2)) ∷ entry 0 0 (Some (act ActKind.Again 2)) ∷ [])) ≡ false
it_waits_in_the_line = refl

it_waits_at_the_end : result watcher 100000 (entry 0 0 (Some (act ActKind.New 1)) ∷ entry 0 1 (Some (act ActKind.New 2)) ∷ entry 0 1 (Some (act ActKind.Call 2)) ∷ entry 0 1 (Some (act ActKind.Line 1)) ∷ entry 0 0 (Some (act ActKind.GiveUp 2)) ∷ []) ≡ Printed ([] ∷ []) 0 0 1 0 11
it_waits_at_the_end = refl

-- the mutex is freed as the value goes out, in one act

-- let o = {serialized, m => meth(s) 1 end}; o.m();
abbrev pub one_call : List BlockTree
one_call =
    block (
    bind_let "o" (object (flags false true) (method_field "m" (codes "s" ∷ []) (then_run (int 1) ∷ []) ∷ []))
    ∷ then_run (call_method (named "o") "m" [])
    ∷ []
    )
    ∷ []

freed_with_the_value : result one_call 100000 (entry 0 0 (Some (act ActKind.New 1)) ∷ entry 0 1 (Some (act ActKind.Call 1)) ∷ entry 0 0 (Some (act ActKind.Leave 1)) ∷ entry 0 0 (Some (act ActKind.End 0)) ∷ []) ≡ Printed ([] ∷ []) 1 0 0 0 0
freed_with_the_value = refl

-- so it is as an exception goes out

-- let o = {serialized, m => meth(s) raise(exception("x")) end}; o.m();
abbrev pub one_raise : List BlockTree
one_raise =
    block (
    bind_let "o" (object (flags false true) (method_field "m" (codes "s" ∷ []) (then_run (raise_it (exception_named "x")) ∷ []) ∷ []))
    ∷ then_run (call_method (named "o") "m" [])
    ∷ []
    )
    ∷ []

freed_with_the_exception : result one_raise 100000 (entry 0 0 (Some (act ActKind.New 1)) ∷ entry 0 1 (Some (act ActKind.Call 1)) ∷ entry 0 2 (Some (act ActKind.Leave 1)) ∷ entry 0 0 (Some (act ActKind.End 0)) ∷ []) ≡ Printed ([] ∷ []) 0 1 0 0 10
freed_with_the_exception = refl

not_by_a_pure_step : is_some (replay one_raise 100000 (entry 0 0 (Some (act ActKind.New 1)) ∷ entry 0 1 (Some (act ActKind.Call 1)) ∷ entry 0 3 None ∷ [])) ≡ false
not_by_a_pure_step = refl

-- an object that another thread is inside of isn't clear

-- let o = {serialized, n => 0, m => meth(s) s.n end}; fork(proc() o.n end); o.m();
abbrev pub two_threads : List BlockTree
two_threads =
    block (
    bind_let "o" (object (flags false true) (value_field "n" (int 0) ∷ method_field "m" (codes "s" ∷ []) (then_run (select (named "s") "n") ∷ []) ∷ []))
    ∷ then_run (call_named "fork" (procedure [] (then_run (select (named "o") "n") ∷ []) ∷ []))
    ∷ then_run (call_method (named "o") "m" [])
    ∷ []
    )
    ∷ []

outside_it_waits : is_some (replay two_threads 100000 (entry 0 0 (Some (act ActKind.New 1)) ∷ entry 0 2 (Some (act ActKind.Fork 1)) ∷ entry 0 1 (Some (act ActKind.Call 1)) ∷ entry 1 1 (Some (act ActKind.Get 1)) ∷ [])) ≡ false
outside_it_waits = refl

inside_it_goes_on : is_some (replay two_threads 100000 (entry 0 0 (Some (act ActKind.New 1)) ∷ entry 0 2 (Some (act ActKind.Fork 1)) ∷ entry 0 1 (Some (act ActKind.Call 1)) ∷ entry 0 0 (Some (act ActKind.Get 1)) ∷ [])) ≡ true
inside_it_goes_on = refl

afterwards_it_goes_on : is_some (replay two_threads 100000 (entry 0 0 (Some (act ActKind.New 1)) ∷ entry 0 2 (Some (act ActKind.Fork 1)) ∷ entry 0 1 (Some (act ActKind.Call 1)) ∷ entry 0 0 (Some (act ActKind.Get 1)) ∷ entry 0 0 (Some (act ActKind.Leave 1)) ∷ entry 1 1 (Some (act ActKind.Get 1)) ∷ [])) ≡ true
afterwards_it_goes_on = refl

before_it_goes_on : is_some (replay two_threads 100000 (entry 0 0 (Some (act ActKind.New 1)) ∷ entry 0 2 (Some (act ActKind.Fork 1)) ∷ entry 1 1 (Some (act ActKind.Get 1)) ∷ [])) ≡ true
before_it_goes_on = refl

-- a selection of an alias is a Hop at the object that has it, and then a Get at its target
-- let p = {y => 1}; let o = {x => alias y of p end}; o.x;
abbrev pub selected_alias : List BlockTree
selected_alias =
    block (
    bind_let "p" (object (flags false false) (value_field "y" (int 1) ∷ []))
    ∷ bind_let "o" (object (flags false false) (alias_field "x" "y" (named "p") ∷ []))
    ∷ then_run (select (named "o") "x")
    ∷ []
    )
    ∷ []

hops_and_gets : result selected_alias 100000 (entry 0 0 (Some (act ActKind.New 1)) ∷ entry 0 1 (Some (act ActKind.New 2)) ∷ entry 0 1 (Some (act ActKind.Hop 2)) ∷ entry 0 0 (Some (act ActKind.Get 1)) ∷ entry 0 0 (Some (act ActKind.End 0)) ∷ []) ≡ Printed ([] ∷ []) 1 0 0 0 0
hops_and_gets = refl
