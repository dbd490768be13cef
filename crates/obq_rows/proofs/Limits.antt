-- The limits of activations and of closures in each other.
use Rattle.std.specs.Prelude.{List, Some, [], codes, refl, ℕ, ◌∷◌, ◌≡◌}
use Rattle.std.specs.Fmt.{digits}
use Rattle.obq_base.specs.declared.trees.Operator.{Operator}
use Rattle.obq_base.specs.Tree.{BlockTree}
use Rattle.obq_model.specs.Terms.{Object, Engine, Value, Okay, Closure, Loc, Call, Invoke, Called, Const, Form, End, Part}
use Rattle.obq_model.specs.Exceptions.{wrong_type, call_limit}
use Rattle.obq_model.specs.Store.{same_loc}
use Rattle.obq_model.specs.Step.{no_self, pure_in}
use Rattle.obq_rows.specs.Sources.{block, then_run, bind_let, bind_var, assign, int, text, okay, named, procedure, arm, choose_arm_else, counted, try_except, operated, call_named, print, exception_named}
use Rattle.obq_rows.specs.Schedule.{LowestFirst, Printed, run}

-- a call where this many activations are around it
abbrev pub empty_closure : Value ℕ
empty_closure = Closure [] (Const Okay)

a_call_below_the_limit : pure_in same_loc (Form Call (Part (Const empty_closure) End)) 999 no_self ≡ Some (Form Called (Part (Const Okay) End))
a_call_below_the_limit = refl

a_call_at_the_limit : pure_in same_loc (Form Call (Part (Const empty_closure) End)) 1000 no_self ≡ Some call_limit
a_call_at_the_limit = refl

the_limit_comes_before_arity : pure_in same_loc (Form Call (Part (Const empty_closure) (Part (Const Okay) End))) 1000 no_self ≡ Some call_limit
the_limit_comes_before_arity = refl

no_limit_for_a_value_that_is_not_called : pure_in same_loc (Form Call (Part (Const Okay) End)) 1000 no_self ≡ Some wrong_type
no_limit_for_a_value_that_is_not_called = refl

an_invocation_at_the_limit : pure_in same_loc (Form (Invoke (codes "m")) (Part (Const (Loc Object 0)) End)) 1000 no_self ≡ Some call_limit
an_invocation_at_the_limit = refl

an_engine_at_the_limit : pure_in same_loc (Form Call (Part (Const (Loc Engine 0)) End)) 1000 no_self ≡ Some call_limit
an_engine_at_the_limit = refl

-- var f = proc() ok end; try for i = 1 to 2000 do wr_putText(stdout, if i > 999 then fmt_int(i) else "" end); let g = f; f :=
--    proc() g end end except exception("closure_limit") => wr_putText(stdout, "!") end;
abbrev pub closures_of_closures : List BlockTree
closures_of_closures =
    block (
    bind_var "f" (procedure [] (then_run okay ∷ []))
    ∷ then_run (try_except (then_run (counted "i" (int 1) (int 2000) (then_run (print (choose_arm_else (arm (operated (named "i") Operator.Greater (int 999)) (then_run (call_named "fmt_int" (named "i" ∷ [])) ∷ []) ∷ []) (then_run (text "") ∷ []))) ∷ bind_let "g" (named "f") ∷ assign "f" (procedure [] (then_run (named "g") ∷ [])) ∷ [])) ∷ []) (arm (exception_named "closure_limit") (then_run (print (text "!")) ∷ []) ∷ []))
    ∷ []
    )
    ∷ []

closures_of_closures_prints : run LowestFirst 40000 1000000 closures_of_closures ≡ Printed (codes "10001001!" ∷ []) 1 0 0 0 0
unfolding digits
closures_of_closures_prints = refl
