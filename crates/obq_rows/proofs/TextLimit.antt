-- A text of the most bytes that there may be.
use Rattle.std.specs.Prelude.{List, [], codes, refl, ◌∷◌, ◌≡◌}
use Rattle.std.specs.Fmt.{digits}
use Rattle.obq_base.specs.declared.trees.Operator.{Operator}
use Rattle.obq_base.specs.Tree.{BlockTree}
use Rattle.obq_rows.specs.Sources.{block, then_run, bind_var, assign, int, text, named, arm, counted, try_except, operated, call_named, print, exception_named}
use Rattle.obq_rows.specs.Schedule.{LowestFirst, Printed, run}

-- var t = "x"; for i = 1 to 16 do t := t & t end; wr_putText(stdout, fmt_int(text_length(t))); try t := t & "y" except
--    exception("text_limit") => wr_putText(stdout, "!") end;
abbrev pub text_limit : List BlockTree
text_limit =
    block (
    bind_var "t" (text "x")
    ∷ then_run (counted "i" (int 1) (int 16) (assign "t" (operated (named "t") Operator.Join (named "t")) ∷ []))
    ∷ then_run (print (call_named "fmt_int" (call_named "text_length" (named "t" ∷ []) ∷ [])))
    ∷ then_run (try_except (assign "t" (operated (named "t") Operator.Join (text "y")) ∷ []) (arm (exception_named "text_limit") (then_run (print (text "!")) ∷ []) ∷ []))
    ∷ []
    )
    ∷ []

text_limit_prints : run LowestFirst 300 100000 text_limit ≡ Printed (codes "65536!" ∷ []) 1 0 0 0 0
unfolding digits
text_limit_prints = refl
