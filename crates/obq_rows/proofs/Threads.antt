-- 64 threads, the most that there may be, on two schedules.
use Rattle.std.specs.Prelude.{List, [], codes, refl, ◌∷◌, ◌≡◌}
use Rattle.std.specs.Fmt.{digits}
use Rattle.obq_base.specs.Tree.{BlockTree}
use Rattle.obq_rows.specs.Sources.{block, then_run, bind_let, set_index, int, text, okay, named, procedure, arm, counted, try_except, raise_it, call_named, index, print, exception_named}
use Rattle.obq_rows.specs.Schedule.{LowestFirst, HighestFirst, Printed, run}

-- let last = array_new(1, ok); for i = 1 to 63 do last[0] := fork(proc() raise(exception("x")) end) end; try fork(proc() ok end)
--    except exception("fork_limit") => wr_putText(stdout, "full") end; try join(last[0]) except exception("x") =>
--    wr_putText(stdout, "x") end;
abbrev pub fork_limit : List BlockTree
fork_limit =
    block (
    bind_let "last" (call_named "array_new" (int 1 ∷ okay ∷ []))
    ∷ then_run (counted "i" (int 1) (int 63) (set_index (named "last") (int 0) (call_named "fork" (procedure [] (then_run (raise_it (exception_named "x")) ∷ []) ∷ [])) ∷ []))
    ∷ then_run (try_except (then_run (call_named "fork" (procedure [] (then_run okay ∷ []) ∷ [])) ∷ []) (arm (exception_named "fork_limit") (then_run (print (text "full")) ∷ []) ∷ []))
    ∷ then_run (try_except (then_run (call_named "join" (index (named "last") (int 0) ∷ [])) ∷ []) (arm (exception_named "x") (then_run (print (text "x")) ∷ []) ∷ []))
    ∷ []
    )
    ∷ []

fork_limit_prints : run LowestFirst 3000 100000 fork_limit ≡ Printed (codes "fullx" ∷ []) 1 63 0 0 10
unfolding digits
fork_limit_prints = refl

fork_limit_prints_other_schedule : run HighestFirst 3000 100000 fork_limit ≡ Printed (codes "fullx" ∷ []) 1 63 0 0 10
unfolding digits
fork_limit_prints_other_schedule = refl
