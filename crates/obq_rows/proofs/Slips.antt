-- Programs that a slip in one definition would change: each is about one rule.
use Rattle.std.specs.Prelude.{Bool, List, Some, [], codes, false, refl, true, ◌∷◌, ◌≡◌}
use Rattle.std.specs.Fmt.{digits}
use Rattle.obq_base.specs.declared.acts.ActKind.{ActKind}
use Rattle.obq_base.specs.Tree.{BlockTree, ExprTree}
use Rattle.obq_model.specs.Located.{Sent}
use Rattle.obq_model.specs.Replay.{kind_same}
use Rattle.obq_model.specs.Spans.{Event}
use Rattle.obq_rows.specs.Sources.{block, then_run, bind_let, int, text, truth, named, flags, object, value_field, method_field, arm, try_except, watch_until, clone_of, call_named, call_method, print, exception_named}
use Rattle.obq_rows.specs.Schedule.{LowestFirst, Printed, run, links_of_run, acts_in_run}

-- {serialized, m => meth(s) watch condition() until true end; wr_putText(stdout, "w") end}
abbrev watching_object : ExprTree
watching_object =
    object (flags false true) (method_field "m" (codes "s" ∷ []) (then_run (watch_until (call_named "condition" []) (truth true)) ∷ then_run (print (text "w")) ∷ []) ∷ [])

-- let o = clone(WATCHING, {q => 1}); o.m();
abbrev pub clone_of_serialized : List BlockTree
clone_of_serialized =
    block (bind_let "o" (clone_of (watching_object ∷ object (flags false false) (value_field "q" (int 1) ∷ []) ∷ [])) ∷ then_run (call_method (named "o") "m" []) ∷ []) ∷ []

-- the flags of a clone are its first object's
the_first_is_serialized : run LowestFirst 200 100000 clone_of_serialized ≡ Printed (codes "w" ∷ []) 1 0 0 0 0
unfolding digits
the_first_is_serialized = refl

-- let o = clone({q => 1}, WATCHING); o.m();
abbrev pub clone_of_plain : List BlockTree
clone_of_plain =
    block (bind_let "o" (clone_of (object (flags false false) (value_field "q" (int 1) ∷ []) ∷ watching_object ∷ [])) ∷ then_run (call_method (named "o") "m" []) ∷ []) ∷ []

the_first_is_not : run LowestFirst 200 100000 clone_of_plain ≡ Printed ([] ∷ []) 0 1 0 0 10
unfolding digits
the_first_is_not = refl

-- let a = {x => 1}; let b = {y => 1}; clone(a, a, b);
abbrev pub equal_names_in_a_clone : List BlockTree
equal_names_in_a_clone =
    block (
    bind_let "a" (object (flags false false) (value_field "x" (int 1) ∷ []))
    ∷ bind_let "b" (object (flags false false) (value_field "y" (int 1) ∷ []))
    ∷ then_run (clone_of (named "a" ∷ named "a" ∷ named "b" ∷ []))
    ∷ []
    )
    ∷ []

abbrev is_copy : Event → Bool
is_copy e = kind_same e.act.kind ActKind.Copy

-- equal names are found only when all objects were copied
all_are_copied_first : acts_in_run is_copy LowestFirst 200 100000 equal_names_in_a_clone ≡ 3
unfolding digits
all_are_copied_first = refl

then_it_raises : run LowestFirst 200 100000 equal_names_in_a_clone ≡ Printed ([] ∷ []) 0 1 0 0 10
unfolding digits
then_it_raises = refl

-- let o = {m => meth(s) try watch 3 until true end except exception("type") => wr_putText(stdout, "t") end end}; o.m();
abbrev pub watch_of_a_number : List BlockTree
watch_of_a_number =
    block (
    bind_let "o" (object (flags false false) (method_field "m" (codes "s" ∷ []) (then_run (try_except (then_run (watch_until (int 3) (truth true)) ∷ []) (arm (exception_named "type") (then_run (print (text "t")) ∷ []) ∷ [])) ∷ []) ∷ []))
    ∷ then_run (call_method (named "o") "m" [])
    ∷ []
    )
    ∷ []

-- that it is no condition comes before that the method isn't serialized
no_condition_comes_first : run LowestFirst 200 100000 watch_of_a_number ≡ Printed (codes "t" ∷ []) 1 0 0 0 0
unfolding digits
no_condition_comes_first = refl

-- net_export("k", "namer", 1); try net_importEngine("k", "namer") except exception("type") => wr_putText(stdout, "t") end;
abbrev pub import_of_no_engine : List BlockTree
import_of_no_engine =
    block (
    then_run (call_named "net_export" (text "k" ∷ text "namer" ∷ int 1 ∷ []))
    ∷ then_run (try_except (then_run (call_named "net_importEngine" (text "k" ∷ text "namer" ∷ [])) ∷ []) (arm (exception_named "type") (then_run (print (text "t")) ∷ []) ∷ []))
    ∷ []
    )
    ∷ []

it_is_no_engine : run LowestFirst 200 100000 import_of_no_engine ≡ Printed (codes "t" ∷ []) 1 0 0 0 0
unfolding digits
it_is_no_engine = refl

-- 1; net_import("none", "namer");
abbrev pub step_and_import : List BlockTree
step_and_import = block (then_run (int 1) ∷ then_run (call_named "net_import" (text "none" ∷ text "namer" ∷ [])) ∷ []) ∷ []

-- a thread that waits abroad with a turn left has sent its request
a_turn_is_left : links_of_run LowestFirst 200 2 step_and_import ≡ Some (Sent 0 1 1 0 ∷ [])
unfolding digits
a_turn_is_left = refl

-- a spent one hasn't
no_turn_is_left : links_of_run LowestFirst 200 1 step_and_import ≡ Some []
unfolding digits
no_turn_is_left = refl
